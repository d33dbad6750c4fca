use Rattle.ntp_service.proofs.Holders.{one-enrolled}
use Rattle.ntp_service.proofs.laws.a_number_has_one_holder.Goals as goal

pub returns : goal.returns
returns g c = λ service history one two number stands. one-enrolled service history stands one two number
