use Rattle.ntp_service.proofs.Splits.{split-not-felt}
use Rattle.ntp_service.proofs.laws.a_split_is_not_felt.Goals as goal

pub returns : goal.returns
returns g c = split-not-felt
