use Rattle.ntp_service.proofs.Forgeries.{genuine-says, genuine-life}
use Rattle.ntp_service.proofs.laws.forged_datagrams_change_nothing.Goals as goal

pub returns-clause-answers : goal.returns-clause-answers
returns-clause-answers g c = genuine-says

pub returns-clause-life : goal.returns-clause-life
returns-clause-life g c = genuine-life
