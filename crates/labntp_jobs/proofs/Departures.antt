-- The exchange that a report of a departure leaves at the server.
use Rattle.std.proofs.Common.{◌≡◌, List, [], ◌∷◌, Some, inl, inr, arith}
use Rattle.std.proofs.{lemmas.Bool.cases_Bool, lemmas.Option.none-some}
use Rattle.ntp_packet.specs.{declared.stamp.Stamp.Stamp, declared.moment.Moment.Moment, Fresh.fresh}
use Rattle.ntp_customer.specs.{declared.slot.Slot.Slot, Past.Past}
use Rattle.ntp_customer.specs.Exchanges.{recent, receives, is_unused_at, unused_at, with_unused, with_departure}
use Rattle.ntp_customer.proofs.PublicLaws.{recent-departed, by_past}
use Rattle.ntp_reply.specs.{Life.recent_of, Exchanged.after_departure}

-- where an exchange is found, it is found with its change
change-found : (receive : Stamp) (change : Slot → Slot) → ((x : Slot) → is_unused_at receive (change x) ≡ is_unused_at receive x)
    → (xs : List Slot) (x : Slot) → unused_at xs receive ≡ Some x → unused_at (with_unused xs receive change) receive ≡ Some (change x)
change-found receive change keeps [] x found = absurd (cc)
change-found receive change keeps (y ∷ ys) x found =
    elim (cases_Bool (is_unused_at receive y)) [
      | inl here ↦
          let at : Some y ≡ Some x = rw here at found in
          rw (here, keeps y, here) (cc)
      | inr past ↦
          let later : unused_at ys receive ≡ Some x = rw past at found in
          rw (past, past) (change-found receive change keeps ys x later)
    ]

-- after its departure it is found with the departure's stamp
departed-found : (xs : List Slot) (receive : Stamp) (m : Moment) (x : Slot) → unused_at xs receive ≡ Some x
    → unused_at (with_departure xs receive m) receive ≡ Some (record x { transmit = fresh m.stamp (receives xs) })
unfolding with_departure
departed-found xs receive m x found = grind (arith, change-found)

pub departure-found : (receive : Stamp) (m : Moment) (x : Slot) (past : Past) → unused_at (recent_of past) receive ≡ Some x
    → unused_at (recent_of (after_departure past receive m)) receive
    ≡ Some (record x { transmit = fresh m.stamp (receives (recent_of past)) })
unfolding recent
departure-found receive m x = grind (arith, by_past, none-some, recent-departed, departed-found)
