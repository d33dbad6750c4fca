-- Where the unused exchange with a receive stamp stands: in one piece of the list or in the other, and nowhere for the stamp 0.
use Rattle.std.proofs.Common.{◌≡◌, ◌≢◌, ℕ, ◌+◌, ◌<◌, Bool, false, List, ◌++◌, length, get_or, refl, ◌∙◌, arith}
use Rattle.std.specs.Prelude.{position, slice_get, All, not, Option, Some, None, IsSome, option_map}
use Rattle.std.specs.List.{position_or_len}
use Rattle.std.proofs.lemmas.Bool.{cases_Bool, and_parts, eqb-true, eq-eqb, ne_eqb, ltb-true, ltb-false, lt-ltb, le-ltb}
use Rattle.std.proofs.{lemmas.List.length-append, lemmas.List.Folds.prefix_len-append, lemmas.List.Sums.prefix_len-le-length}
use Rattle.std.proofs.{lemmas.List.Quantifiers.position-Some, lemmas.Option.slice_get_cases}
use Rattle.ntp_packet.specs.declared.stamp.Stamp.{Stamp}
use Rattle.ntp_customer.specs.{declared.slot.Slot.Slot, Exchanges.is_unused_at, Exchanges.is_received_at}

-- a first place is counted from the front, and there is none where all were counted
place-from_count : {X : Type 0} (p : X → Bool) (xs : List X) (n : ℕ) → position_or_len p xs ≡ n → n < length xs
    → position p xs ≡ Some n
place-from_count p xs n at below = grind (arith, lt-ltb)

none-from_count : {X : Type 0} (p : X → Bool) (xs : List X) → position_or_len p xs ≡ length xs → position p xs ≡ None
none-from_count p xs past = grind (arith, le-ltb)

count-from_place : {X : Type 0} (p : X → Bool) (xs : List X) (i : ℕ) → position p xs ≡ Some i
    → (position_or_len p xs ≡ i) × (i < length xs)
count-from_place p xs i at = grind (arith, cases_Bool, ltb-true)

count-from_none : {X : Type 0} (p : X → Bool) (xs : List X) → position p xs ≡ None → position_or_len p xs ≡ length xs
count-from_none p xs none = grind (arith, cases_Bool, ltb-false, prefix_len-le-length)

-- so what is lent of that place is there
pub lent_at_place : {X T : Type 0} (p : X → Bool) (xs : List X) (i : ℕ) (f : T → X) (lent : Option T) → position p xs ≡ Some i
    → option_map f lent ≡ slice_get xs i → IsSome lent
lent_at_place p xs i f lent e g = grind (arith, slice_get_cases, count-from_place)

-- a first place in the first of two pieces is that in both
pub place-in_first : {X : Type 0} (p : X → Bool) (xs ys : List X) (i : ℕ) → position p xs ≡ Some i → position p (xs ++ ys) ≡ Some i
place-in_first p xs ys i at = grind (arith, count-from_place, ne_eqb, prefix_len-append, place-from_count, length-append)

-- what is counted over two pieces where none stands in the first
count-past_first : {X : Type 0} (p : X → Bool) (xs ys : List X) → position p xs ≡ None
    → position_or_len p (xs ++ ys) ≡ length xs + position_or_len p ys
count-past_first p xs ys none = grind (arith, eq-eqb, count-from_none, prefix_len-append)

-- where there is none in the first, it is that in the second, behind the first
pub place-in_second : {X : Type 0} (p : X → Bool) (xs ys : List X) (i : ℕ) → position p xs ≡ None → position p ys ≡ Some i
    → position p (xs ++ ys) ≡ Some (length xs + i)
place-in_second p xs ys i none at = grind (arith, count-from_place, place-from_count, count-past_first, length-append)

-- or there is none in both
pub place-in_neither : {X : Type 0} (p : X → Bool) (xs ys : List X) → position p xs ≡ None → position p ys ≡ None
    → position p (xs ++ ys) ≡ None
place-in_neither p xs ys none also = grind (arith, none-from_count, count-past_first, count-from_none, length-append)

-- for the stamp 0 there is none
pub none-at_zero : (receive : Stamp) (xs : List Slot) → receive.0 ≡ 0 → All (λ x. x.receive.0 ≢ 0) xs
    → (o : Option ℕ) → position (is_unused_at receive) xs ≡ o → o ≡ None
none-at_zero receive xs zero received None none = refl
none-at_zero receive xs zero received (Some i) at =
    let d : Slot = record { receive = receive; transmit = receive; used = false } in
    let there = position-Some (is_unused_at receive) xs i d at in
    let parts = and_parts (not (get_or xs i d).used) (is_received_at receive (get_or xs i d)) there.1 in
    absurd (received i d there.0 (eqb-true (get_or xs i d).receive.0 receive.0 parts.1 ∙ zero))

-- the place in either piece, or in none
pub ruleset places = (place-in_first, place-in_second, place-in_neither, none-at_zero)
