use Rattle.std.proofs.Common.{take}
use Rattle.std.specs.Prelude.{nat_eq}
use Rattle.indexmap.specs.{IndexMap.get, IndexSet.contains}
use Rattle.ntp_service.specs.Address.{address_eq}
use Rattle.ntp_clerk.proofs.Judging.{Judged}
use Rattle.ntp_clerk.proofs.leading.judged.Given as goal

abbrev pub invariant-loop-customer : goal.invariant-loop-customer
invariant-loop-customer l = Judged (take l.customer-index l.wanted) (λ q. get address_eq l.terms q) (λ n. contains nat_eq l.numbers n)
