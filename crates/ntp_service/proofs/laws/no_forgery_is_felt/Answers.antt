use Rattle.ntp_service.proofs.Forgeries.{without-forgeries}
use Rattle.ntp_service.proofs.laws.no_forgery_is_felt.Goals as goal

pub returns : goal.returns
returns g c = without-forgeries
