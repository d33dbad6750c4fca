use Rattle.ntp_service.proofs.KeysOfLives.{HasKeys-life_of}
use Rattle.ntp_service.proofs.laws.a_customer_has_one_or_two_keys.Goals as goal

pub returns : goal.returns
returns g c = HasKeys-life_of
