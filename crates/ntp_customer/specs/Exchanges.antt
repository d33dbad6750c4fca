-- Exchanges: what is saved of the time replies to one customer, oldest first.
use Rattle.std.specs.Prelude.{◌≢◌, ℕ, ◌-◌, ◌≤◌, Bool, true, false, not, ◌&&◌, ◌==◌, if◌then◌else◌, IsTrue, List, ◌++◌, length, take, drop, map, find, Option, All}
use Rattle.std.specs.List.{AllPairs}
use Rattle.ntp_packet.specs.{declared.stamp.Stamp.Stamp, declared.moment.Moment.Moment, Fresh.fresh, Fresh.is_free}
use Rattle.ntp_customer.specs.declared.slot.Slot.{Slot}

-- how many exchanges are saved (profile)
abbrev pub most_slots : ℕ
most_slots = 8

-- the last of them that are saved, or all where there are fewer (profile)
unfoldable pub recent : List Slot → List Slot
recent xs = drop (length xs - most_slots) xs

-- the list with these in the place of its recent ones, as many as they are, and the older ones as they were (profile)
unfoldable pub with_recent : List Slot → List Slot → List Slot
with_recent xs ys = take (length xs - most_slots) xs ++ ys

-- a new exchange, which no interleaved reply has used (profile)
abbrev pub new_exchange : Stamp → Stamp → Slot
new_exchange receive transmit = record { receive = receive; transmit = transmit; used = false }

-- the receive stamps, oldest first (profile)
abbrev pub receives : List Slot → List Stamp
receives xs = map (λ x. x.receive) xs

-- the transmit stamps, oldest first (profile)
abbrev pub transmits : List Slot → List Stamp
transmits xs = map (λ x. x.transmit) xs

-- all receive stamps, then all transmit stamps (profile)
abbrev pub all_stamps : List Slot → List Stamp
all_stamps xs = receives xs ++ transmits xs

-- at most as many as are saved, whose receive stamps differ and are not 0, with no transmit stamp that is 0 or one of them (profile)
pub record AreSaved (xs : List Slot) : Type 0 where
  pub few : length xs ≤ most_slots
  pub distinct : AllPairs ◌≢◌ (receives xs)
  pub received : All (λ x. x.receive.0 ≢ 0) xs
  pub apart : All (λ x. IsTrue (is_free (receives xs) x.transmit)) xs

-- whether an exchange has this receive stamp (profile)
abbrev pub is_received_at : Stamp → Slot → Bool
is_received_at receive x = x.receive.0 == receive.0

-- whether it has it and is unused (profile)
abbrev pub is_unused_at : Stamp → Slot → Bool
is_unused_at receive x = not x.used && is_received_at receive x

-- the exchange with this receive stamp, used or not (profile)
abbrev pub exchange_at : List Slot → Stamp → Option Slot
exchange_at xs receive = find (is_received_at receive) xs

-- the unused exchange with this receive stamp (profile, after RFC 9769)
abbrev pub unused_at : List Slot → Stamp → Option Slot
unused_at xs receive = find (is_unused_at receive) xs

-- with a change to the unused exchange with this receive stamp, and all else as it was (profile)
abbrev pub with_unused : List Slot → Stamp → (Slot → Slot) → List Slot
with_unused xs receive change = map (λ x. if is_unused_at receive x then change x else x) xs

-- with that exchange marked used (profile, after RFC 9769)
unfoldable pub spent : List Slot → Stamp → List Slot
spent xs receive = with_unused xs receive (λ x. record x { used = true })

-- with its transmit stamp that of the departure, or the first after it that is neither 0 nor a receive stamp (profile, after RFC 9769)
unfoldable pub with_departure : List Slot → Stamp → Moment → List Slot
with_departure xs receive m = with_unused xs receive (λ x. record x { transmit = fresh m.stamp (receives xs) })
