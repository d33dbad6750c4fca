use Rattle.std.proofs.Common.{drop}
use Rattle.ntp_clerk.proofs.Having.{Having}
use Rattle.ntp_clerk.proofs.wanted.customers_of.Given as goal

abbrev pub invariant-loop-address : goal.invariant-loop-address
invariant-loop-address l = Having l.service (drop l.address-index l.address-items) l.customers.items
