use Rattle.ntp_service.proofs.KeptLives.{tells-all}
use Rattle.ntp_service.proofs.laws.what_is_kept_of_a_life_tells_all.Goals as goal

pub returns : goal.returns
returns g c = λ one other e same few. tells-all one other e same few
