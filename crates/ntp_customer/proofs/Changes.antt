-- A change to the unused exchange with a receive stamp: it is made at one place, and keeps the receive stamps.
use Rattle.std.proofs.Common.{◌≡◌, ◌≢◌, ℕ, suc, ◌<◌, inl, inr, Bool, true, false, cond, List, [], ◌∷◌, length, map, set, get_or, Some, None, refl, sym, ap, subst, ◌∙◌, arith}
use Rattle.std.specs.Prelude.{find, position, slice_get, Contains}
use Rattle.std.specs.List.{AllPairs}
use Rattle.std.proofs.lemmas.Bool.{cases_Bool, cases_eq, cases_order, and_parts, eqb-true, false_from_ne_true, ltb-false}
use Rattle.std.proofs.lemmas.List.{length-set, length-map, get_or-set_same, get_or-set_other, get_or-map, get_or_default, same_lists}
use Rattle.std.proofs.{lemmas.List.Folds.find_at, lemmas.List.Quantifiers.position-Some}
use Rattle.std.proofs.lemmas.Option.{slice_get_cases, get_or_from_slice_get}
use Rattle.ntp_packet.specs.declared.stamp.Stamp.{Stamp}
use Rattle.ntp_customer.specs.declared.slot.Slot.{Slot}
use Rattle.ntp_customer.specs.Exchanges.{receives, all_stamps, with_unused, is_unused_at, unused_at, spent}

-- what is found is a member that passes
pub find-member : {X : Type 0} (p : X → Bool) (xs : List X) (x : X) → find p xs ≡ Some x → Contains xs x × (p x ≡ true)
find-member p [] x found = cc
find-member p (y ∷ xs) x found =
    elim (cases_Bool (p y)) [
      | inl here ↦
          let at : Some y ≡ Some x = rw here at found in
          let same : y ≡ x = cc in
          ((0, omega arith, same), subst (λ z. p z ≡ true) same here)
      | inr past ↦
          let later : find p xs ≡ Some x = rw past at found in
          let rest = find-member p xs x later in
          ((suc rest.0.0, omega (arith, rest.0.1), rest.0.2), rest.1)
    ]

-- where nobody is found, a change to those that pass changes nothing
pub map-unfound : {X : Type 0} (p : X → Bool) (change : X → X) (xs : List X) → find p xs ≡ None → map (λ x. cond (p x) (change x) x) xs ≡ xs
map-unfound p change [] none = refl
map-unfound p change (y ∷ xs) none =
    elim (cases_Bool (p y)) [
      | inl here ↦ let at : Some y ≡ None = rw here at none in cc
      | inr past ↦ let later : find p xs ≡ None = rw past at none in rw past (ap (λ ys. y ∷ ys) (map-unfound p change xs later))
    ]

-- who has no first place is not found
pub find-from_no_position : {X : Type 0} (p : X → Bool) (xs : List X) → position p xs ≡ None → find p xs ≡ None
find-from_no_position p xs none = grind (arith, cases_Bool, slice_get_cases, ltb-false, find_at)

-- who stands at the first place is found
pub find-at_position : {X : Type 0} (p : X → Bool) (xs : List X) (i : ℕ) (x : X) → position p xs ≡ Some i → slice_get xs i ≡ Some x
    → find p xs ≡ Some x
find-at_position p xs i x at there = grind (arith, cases_Bool, find_at)

-- the exchange with the receive stamp at one place is the only one
only-there : (xs : List Slot) (i k : ℕ) (d : Slot) → AllPairs ◌≢◌ (receives xs) → i < length xs → k < length xs → k ≢ i
    → (get_or xs k d).receive ≡ (get_or xs i d).receive → ⊥
only-there xs i k d distinct there here other same =
    let at_i : get_or (receives xs) i d.receive ≡ (get_or xs i d).receive = get_or-map (λ x. x.receive) xs i d d.receive there in
    let at_k : get_or (receives xs) k d.receive ≡ (get_or xs k d).receive = get_or-map (λ x. x.receive) xs k d d.receive here in
    elim (cases_order k i) [
      | inl equal ↦ other equal
      | inr (inl before) ↦ distinct k i d.receive before (omega (arith, length-map {A = Slot} {B = Stamp})) (at_k ∙ same ∙ sym at_i)
      | inr (inr after) ↦ distinct i k d.receive after (omega (arith, length-map {A = Slot} {B = Stamp})) (at_i ∙ sym same ∙ sym at_k)
    ]

-- whoever has the receive stamp has it
stamp-from_test : (receive : Stamp) (x : Slot) → is_unused_at receive x ≡ true → x.receive ≡ receive
stamp-from_test receive x passes = grind (arith, eqb-true, and_parts)

-- a change at the first place is all
change-at_place : (receive : Stamp) (change : Slot → Slot) (xs : List Slot) (i : ℕ) (d : Slot) → AllPairs ◌≢◌ (receives xs)
    → position (is_unused_at receive) xs ≡ Some i → set xs i (change (get_or xs i d)) ≡ with_unused xs receive change
change-at_place receive change xs i e distinct at =
    let there : i < length xs = (position-Some (is_unused_at receive) xs i e at).0 in
    let as_long : length (set xs i (change (get_or xs i e))) ≡ length xs = length-set xs i (change (get_or xs i e)) in
    let one : Slot → Slot = λ x. cond (is_unused_at receive x) (change x) x in
    same_lists _ _ (as_long ∙ sym (length-map xs one)) (λ k d below.
    let here : k < length xs = omega (arith, as_long, below) in
    let mapped : get_or (with_unused xs receive change) k d ≡ one (get_or xs k d) = get_or-map one xs k d d here in
    let passes : is_unused_at receive (get_or xs i d) ≡ true = (position-Some (is_unused_at receive) xs i d at).1 in
    elim (cases_eq k i) [
      | inl same ↦
          let written : get_or (set xs i (change (get_or xs i e))) i d ≡ change (get_or xs i e) =
          get_or-set_same xs i (change (get_or xs i e)) d there in
          let made : one (get_or xs i d) ≡ change (get_or xs i d) = rw passes refl in
          ap (λ j. get_or (set xs i (change (get_or xs i e))) j d) same ∙ written ∙ ap change (get_or_default xs i e d there)
          ∙ sym made ∙ sym (mapped ∙ ap (λ j. one (get_or xs j d)) same)
      | inr other ↦
          let fails : is_unused_at receive (get_or xs k d) ≡ false =
          false_from_ne_true _ (λ too. only-there xs i k d distinct there here other
          (stamp-from_test receive (get_or xs k d) too ∙ sym (stamp-from_test receive (get_or xs i d) passes))) in
          let left : one (get_or xs k d) ≡ get_or xs k d = rw fails refl in
          get_or-set_other xs i k (change (get_or xs i e)) d other ∙ sym left ∙ sym mapped
    ])

-- so where the exchange at the first place is changed
pub written-at_place : (receive : Stamp) (change : Slot → Slot) (xs : List Slot) (i : ℕ) (x : Slot) → AllPairs ◌≢◌ (receives xs)
    → position (is_unused_at receive) xs ≡ Some i → slice_get xs i ≡ Some x → set xs i (change x) ≡ with_unused xs receive change
written-at_place receive change xs i x distinct at there =
    ap (λ y. set xs i (change y)) (sym (get_or_from_slice_get xs i x x there)) ∙ change-at_place receive change xs i x distinct at

-- where there is no such exchange, nothing changes
pub unchanged-from_none : (receive : Stamp) (change : Slot → Slot) (xs : List Slot) → unused_at xs receive ≡ None
    → with_unused xs receive change ≡ xs
unchanged-from_none receive change xs none = map-unfound (is_unused_at receive) change xs none

-- as many exchanges stay
pub length-with_unused : (receive : Stamp) (change : Slot → Slot) (xs : List Slot) → length (with_unused xs receive change) ≡ length xs
length-with_unused receive change xs = length-map xs (λ x. cond (is_unused_at receive x) (change x) x)

-- a change that keeps a stamp keeps them all
map-with_unused : (f : Slot → Stamp) (receive : Stamp) (change : Slot → Slot) (xs : List Slot) → ((x : Slot) → f (change x) ≡ f x)
    → map f (with_unused xs receive change) ≡ map f xs
map-with_unused f receive change [] keeps = refl
map-with_unused f receive change (x ∷ xs) keeps =
    elim (cases_Bool (is_unused_at receive x)) [
      | inl here ↦ rw (here, keeps x, map-with_unused f receive change xs keeps) refl
      | inr past ↦ rw (past, map-with_unused f receive change xs keeps) refl
    ]

pub receives-with_unused : (receive : Stamp) (change : Slot → Slot) (xs : List Slot) → ((x : Slot) → (change x).receive ≡ x.receive)
    → receives (with_unused xs receive change) ≡ receives xs
receives-with_unused receive change xs keeps = map-with_unused (λ x. x.receive) receive change xs keeps

-- where an exchange is spent, all stamps stay
pub receives-spent : (xs : List Slot) (receive : Stamp) → receives (spent xs receive) ≡ receives xs
unfolding spent
receives-spent xs receive = receives-with_unused receive (λ x. record x { used = true }) xs (λ x. refl)

pub all_stamps-spent : (xs : List Slot) (receive : Stamp) → all_stamps (spent xs receive) ≡ all_stamps xs
unfolding spent
all_stamps-spent xs receive = grind (arith, map-with_unused, receives-spent)

-- who is found at a first place or at none, and a change there
pub ruleset changes = (find-at_position, find-from_no_position, written-at_place, unchanged-from_none)
