use Rattle.ntp_service.proofs.Splits.{split-commands-not-felt}
use Rattle.ntp_service.proofs.laws.a_split_of_commands_is_not_felt.Goals as goal

pub returns : goal.returns
returns g c = split-commands-not-felt
