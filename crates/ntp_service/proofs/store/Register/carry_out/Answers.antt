use Rattle.std.proofs.Common.{rules}
use Rattle.ntp_service.proofs.Agreement.{agrees-after}
use Rattle.ntp_service.proofs.store.Register.carry_out.Goals as goal

pub returns-clause-answers : goal.returns-clause-answers
returns-clause-answers g c = search rules

pub returns-clause-agrees : goal.returns-clause-agrees
returns-clause-agrees g c = search (rules, agrees-after)
