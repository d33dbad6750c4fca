use Rattle.std.proofs.Common.{◌≡◌, ◌++◌}
use Rattle.ntp_service.proofs.store.Register.addresses.Given as goal

abbrev pub invariant-loop-address : goal.invariant-loop-address
invariant-loop-address g l = l.addresses.items ++ l.address-iterator ≡ l.initial.address-iterator
