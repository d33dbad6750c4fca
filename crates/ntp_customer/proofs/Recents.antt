-- The recent exchanges are the last ones of a list, and what is put behind a list goes by them alone.
use Rattle.std.proofs.Common.{◌≡◌, true, ℕ, ◌+◌, ◌-◌, ◌≤◌, min, List, ◌++◌, length, drop, refl, sym, ap, ◌∙◌, arith, append_assoc}
use Rattle.std.proofs.{lemmas.Grind.common_steps, lemmas.Bool.cases_lt}
use Rattle.std.proofs.lemmas.List.{length-append, length-drop, length-take-le, take-append-drop, drop-drop, drop_at}
use Rattle.ntp_customer.specs.declared.slot.Slot.{Slot}
use Rattle.ntp_packet.specs.{declared.stamp.Stamp.Stamp, declared.moment.Moment.Moment, Fresh.fresh}
use Rattle.ntp_customer.specs.Exchanges.{most_slots, recent, with_recent, receives, spent, with_departure}
use Rattle.ntp_customer.proofs.Changes.{length-with_unused}

-- the last n members
abbrev last_ones : {X : Type 0} → ℕ → List X → List X
last_ones n xs = drop (length xs - n) xs

-- all of them, where there are no more
last_ones-all : {X : Type 0} (n : ℕ) (xs : List X) → length xs ≤ n → last_ones n xs ≡ xs
last_ones-all n xs few = let none : length xs - n ≡ 0 = omega arith in rw none refl

-- what stands before n members or more does not matter
last_ones-append : {X : Type 0} (n : ℕ) (xs ys : List X) → n ≤ length ys → last_ones n (xs ++ ys) ≡ last_ones n ys
last_ones-append n xs ys enough =
    let past : length (xs ++ ys) - n ≡ length xs + (length ys - n) = omega (arith, length-append xs ys) in
    rw past (sym (drop-drop (length ys - n) (length xs) (xs ++ ys)) ∙ ap (drop (length ys - n)) (drop_at xs ys (length xs) refl))

-- nor does what is no longer among the last n, where more is put behind
last_ones-last_ones : {X : Type 0} (n : ℕ) (xs ys : List X) → last_ones n (last_ones n xs ++ ys) ≡ last_ones n (xs ++ ys)
last_ones-last_ones n xs ys = grind (arith, common_steps, cases_lt, last_ones-all, length-append, length-drop, take-append-drop, append_assoc, last_ones-append)

-- the recent ones are at most as many as are saved
pub length-recent : (xs : List Slot) → length (recent xs) ≡ min most_slots (length xs)
unfolding recent
length-recent xs = omega (arith, length-drop (length xs - most_slots) xs)

-- where there are no more than are saved, all are recent
pub recent-all : (xs : List Slot) → length xs ≤ most_slots → recent xs ≡ xs
unfolding recent
recent-all xs few = last_ones-all most_slots xs few

-- who keeps the recent ones alone goes on rightly
pub recent-append : (xs ys : List Slot) → recent (recent xs ++ ys) ≡ recent (xs ++ ys)
unfolding recent
recent-append xs ys = last_ones-last_ones most_slots xs ys

-- a list with as many others as its recent ones has these
pub recent-with_recent : (xs ys : List Slot) → length ys ≡ length (recent xs) → recent (with_recent xs ys) ≡ ys
unfolding recent with_recent
recent-with_recent xs ys as_many = grind (arith, length-take-le, length-append, length-drop, drop_at)

-- a change in place to the recent ones leaves as many
pub length-spent : (xs : List Slot) (receive : Stamp) → length (spent xs receive) ≡ length xs
unfolding spent
length-spent xs receive = length-with_unused receive (λ x. record x { used = true }) xs

pub length-departed : (xs : List Slot) (receive : Stamp) (m : Moment) → length (with_departure xs receive m) ≡ length xs
unfolding with_departure
length-departed xs receive m = length-with_unused receive (λ x. record x { transmit = fresh m.stamp (receives xs) }) xs

-- so where a recent one is spent, the recent ones of the whole are those with it spent
pub recent-spent : (xs : List Slot) (receive : Stamp) → recent (with_recent xs (spent (recent xs) receive)) ≡ spent (recent xs) receive
recent-spent xs receive = recent-with_recent xs (spent (recent xs) receive) (length-spent (recent xs) receive)

-- and where one departs, those with it departed
pub recent-departed : (xs : List Slot) (receive : Stamp) (m : Moment)
    → recent (with_recent xs (with_departure (recent xs) receive m)) ≡ with_departure (recent xs) receive m
recent-departed xs receive m = recent-with_recent xs (with_departure (recent xs) receive m) (length-departed (recent xs) receive m)
