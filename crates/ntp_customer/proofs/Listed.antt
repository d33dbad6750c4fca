-- Stamps that are listed one exchange after another.
use Rattle.std.proofs.Common.{◌≡◌, ℕ, ◌+◌, ◌<◌, List, ◌++◌, ◌∷◌, [], length, take, map, slice_index_or, arith}
use Rattle.std.proofs.lemmas.Grind.{common_steps}
use Rattle.std.proofs.lemmas.List.{take_more, map-append, append_assoc, take_all, append-nil}
use Rattle.ntp_packet.specs.declared.stamp.Stamp.{Stamp}
use Rattle.ntp_customer.specs.declared.slot.Slot.{Slot}

-- one more, behind those that were listed
pub one-more : (stamp : Slot → Stamp) (before listed now : List Stamp) (slots : List Slot) (at : ℕ) (d : Slot) → at < length slots
    → listed ≡ before ++ map stamp (take at slots) → now ≡ listed ++ stamp (slice_index_or slots at d) ∷ []
    → now ≡ before ++ map stamp (take (at + 1) slots)
one-more stamp before listed now slots at d within so_far more = grind (arith, common_steps, take_more, append_assoc, map-append)

-- one more, at the start and at the end of a loop
pub ruleset listed = (take_all, append-nil, one-more)
