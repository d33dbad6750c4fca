use Rattle.std.proofs.Common.{rules}
use Rattle.ntp_service.proofs.Agreement.{agrees-empty}
use Rattle.ntp_service.proofs.store.Register.new.Goals as goal

pub returns-clause-empty : goal.returns-clause-empty
returns-clause-empty g c = search rules

pub returns-clause-agrees : goal.returns-clause-agrees
returns-clause-agrees g c = rw (returns-clause-empty g c) agrees-empty
