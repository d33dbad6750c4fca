use Rattle.ntp_service.proofs.Stretches.{few-replies}
use Rattle.ntp_service.proofs.laws.replies_in_a_window_are_few.Goals as goal

pub returns : goal.returns
returns g c = few-replies
