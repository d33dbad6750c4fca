use Rattle.std.proofs.Common.{◌≡◌, ◌+◌, ◌++◌, length, take}
use Rattle.ntp_customer.specs.Exchanges.{receives}
use Rattle.ntp_customer.proofs.saved_stamps.add_receives.Given as goal

abbrev pub invariant-loop-slot : goal.invariant-loop-slot
invariant-loop-slot l =
    (l.stamps.items ≡ l.initial.stamps.items ++ receives (take l.slot-index l.slots))
    × (length l.stamps.items ≡ length l.initial.stamps.items + l.slot-index)
