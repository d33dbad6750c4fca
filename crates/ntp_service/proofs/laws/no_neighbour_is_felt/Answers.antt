use Rattle.ntp_service.proofs.Runs.{alike}
use Rattle.ntp_service.proofs.laws.no_neighbour_is_felt.Goals as goal

pub returns : goal.returns
returns g c = alike
