use Rattle.ntp_service.proofs.Histories.{stands-empty}
use Rattle.ntp_service.proofs.service.Service.new.Goals as goal

pub returns : goal.returns
returns g c = rw c.new.ensures.empty stands-empty
