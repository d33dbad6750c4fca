use Rattle.ntp_service.proofs.Stretches.{tells-few}
use Rattle.ntp_service.proofs.laws.few_replies_are_told.Goals as goal

pub returns : goal.returns
returns g c = tells-few
