use Rattle.std.proofs.Common.{◌≡◌, ◌+◌, ◌++◌, length, take}
use Rattle.ntp_customer.specs.Exchanges.{transmits}
use Rattle.ntp_customer.proofs.saved_stamps.add_transmits.Given as goal

abbrev pub invariant-loop-slot : goal.invariant-loop-slot
invariant-loop-slot l =
    (l.stamps.items ≡ l.initial.stamps.items ++ transmits (take l.slot-index l.slots))
    × (length l.stamps.items ≡ length l.initial.stamps.items + l.slot-index)
