-- The fresh stamp: there is a free one among the first length avoid + 2, and the first of them is fresh.
use Rattle.std.proofs.Common.{◌≡◌, ◌≢◌, ℕ, zero, suc, ◌+◌, ◌%◌, ◌^◌, ◌<◌, ◌≤◌, ◌⊎◌, inl, inr, Bool, true, false, not, eqb, List, [], ◌∷◌, length, map, Some, refl, sym, ap, subst, ◌∙◌, arith}
use Rattle.std.specs.Prelude.{find, unwrap_or, Contains}
use Rattle.std.specs.List.{list_any, range_with_len, IsDistinct}
use Rattle.std.specs.Cmp.{nat_eq_equiv}
use Rattle.std.proofs.lemmas.Bool.{cases_lt, cases_Bool, and_parts, and_cases, and_from, not-true, not-false, not_from_false, or_cases, or_left, or_right, eqb-true, eqb-false, eq-eqb, ne_eqb, false_from_ne_true, both_ways, true_from_ne_false}
use Rattle.std.proofs.{lemmas.List.length-map, lemmas.List.Folds.Any-from_list_any, lemmas.List.Folds.list_any_at}
use Rattle.std.proofs.lemmas.List.FromFn.{length-map-range_with_len, get_or-map-range_with_len}
use Rattle.std.proofs.{lemmas.Map.Keys.IsDistinct-from_apart, lemmas.Map.Made.length-le_from_is_member}
use Rattle.ntp_packet.specs.declared.stamp.Stamp.{Stamp}
use Rattle.ntp_packet.specs.Fresh.{later, is_free, fresh, IsFresh}

-- a stamp's number k units later, modulo 2^64
abbrev units_later : ℕ → ℕ → ℕ
units_later n k = (n + k) % 2 ^ 64

-- less than 2^64 units apart, the numbers differ
units_later-apart : (n i j : ℕ) → i < j → j < 2 ^ 64 → units_later n i ≡ units_later n j → ⊥
units_later-apart n i j h few e = omega arith

-- the numbers of at most 2^64 stamps in a row differ
distinct-later : (n m : ℕ) → m ≤ 2 ^ 64 → IsDistinct eqb (map (units_later n) (range_with_len 0 m))
distinct-later n m few = grind (arith, IsDistinct-from_apart, length-map-range_with_len, get_or-map-range_with_len, ne_eqb, units_later-apart)

-- where each f k of a row is in ys, so is each member of the row
members-all : (f : ℕ → ℕ) (ys : List ℕ) (a m : ℕ) → ((k : ℕ) → a ≤ k → k < a + m → list_any (eqb (f k)) ys ≡ true)
    → (q : ℕ) → list_any (eqb q) (map f (range_with_len a m)) ≡ true → list_any (eqb q) ys ≡ true
members-all f ys a zero each q found = absurd (both_ways _ refl found)
members-all f ys a (suc m) each q found =
    elim (or_cases (eqb q (f a)) _ found) [
      | inl here ↦ rw (eqb-true q (f a) here) (each a (omega arith) (omega arith))
      | inr past ↦ members-all f ys (a + 1) m (λ k from below. each k (omega arith) (omega arith)) q past
    ]

-- a test for equality, turned round
eqb-flips : (a b : ℕ) → eqb a b ≡ eqb b a
eqb-flips a b = grind (arith, cases_Bool, eq-eqb, eqb-true, ne_eqb, eqb-false)

-- a number is among those of stamps where one of the stamps has it
any-number : (n : ℕ) (avoid : List Stamp) → list_any (eqb n) (map (λ a. a.0) avoid) ≡ list_any (λ a. eqb a.0 n) avoid
any-number n [] = refl
any-number n (a ∷ avoid) = rw (eqb-flips n a.0, any-number n avoid) refl

-- the numbers that a free stamp has not: 0, and those of the stamps to avoid
abbrev taken_numbers : List Stamp → List ℕ
taken_numbers avoid = 0 ∷ map (λ a. a.0) avoid

-- a stamp that is not free has one of them
taken-number : (avoid : List Stamp) (s : Stamp) → is_free avoid s ≡ false → list_any (eqb s.0) (taken_numbers avoid) ≡ true
unfolding is_free
taken-number avoid s taken = grind (arith, and_cases, or_left, not-false, or_right, any-number)

-- of the first length avoid + 2 stamps from s on one is free, since the numbers taken are fewer
some-free : (s : Stamp) (avoid : List Stamp) → length avoid < 2 ^ 63
    → ((k : ℕ) → k < length avoid + 2 → is_free avoid (later s k) ≡ false) → ⊥
some-free s avoid small none =
    let row : List ℕ = map (units_later s.0) (range_with_len 0 (length avoid + 2)) in
    let few : length row ≤ length (taken_numbers avoid) =
    length-le_from_is_member nat_eq_equiv row (taken_numbers avoid) (distinct-later s.0 (length avoid + 2) (omega arith))
    (members-all (units_later s.0) (taken_numbers avoid) 0 (length avoid + 2)
    (λ k _ below. taken-number avoid (later s k) (none k (omega arith)))) in
    omega (arith, few, length-map-range_with_len (units_later s.0) 0 (length avoid + 2), length-map {A = Stamp} {B = ℕ})

-- the first number to pass, which is below m
record IsFirst (p : ℕ → Bool) (m : ℕ) : Type 0 where
  pub place : ℕ
  pub below : place < m
  pub passes : p place ≡ true
  pub before : (j : ℕ) → j < place → p j ≡ false

-- some number below m is the first to pass, or all fail
first-or-none : (p : ℕ → Bool) (m : ℕ) → IsFirst p m ⊎ ((k : ℕ) → k < m → p k ≡ false)
first-or-none p zero = inr (λ k none. absurd (omega arith))
first-or-none p (suc m) =
    elim (first-or-none p m) [
      | inl first ↦ inl (record { place = first.place; below = omega arith; passes = first.passes; before = first.before })
      | inr none ↦ elim (cases_Bool (p m)) [
        | inl here ↦ inl (record { place = m; below = omega arith; passes = here; before = none })
        | inr fails ↦ inr (λ k below. elim (cases_lt k m) [
          | inl lt ↦ none k lt
          | inr ge ↦ let at : k ≡ m = omega arith in rw at fails
        ])
      ]
    ]

-- `find` over f a, f (a + 1), .. gives the first that passes
find-first : {X : Type 0} (p : X → Bool) (f : ℕ → X) (a m k : ℕ) → a ≤ k → k < a + m
    → ((j : ℕ) → a ≤ j → j < k → p (f j) ≡ false) → p (f k) ≡ true → find p (map f (range_with_len a m)) ≡ Some (f k)
find-first p f a zero k from below before passes = absurd (omega arith)
find-first p f a (suc m) k from below before passes =
    elim (cases_lt a k) [
      | inl lt ↦ rw (before a (omega arith) lt)
          (find-first p f (a + 1) m k (omega arith) (omega arith) (λ j more. before j (omega arith)) passes)
      | inr ge ↦ let at : a ≡ k = omega arith in rw (at, passes) refl
    ]

-- no other stamp than the fresh one is the first free one
pub fresh_from_IsFresh : (s : Stamp) (avoid : List Stamp) (r : Stamp) → IsFresh s avoid r → r ≡ fresh s avoid
unfolding fresh
fresh_from_IsFresh s avoid r is =
    let found : find (is_free avoid) (map (later s) (range_with_len 0 (length avoid + 2))) ≡ Some (later s is.steps) =
    find-first (is_free avoid) (later s) 0 (length avoid + 2) is.steps (omega arith) (omega (arith, is.few))
    (λ j _ before. false_from_ne_true _ (is.least j before)) (subst (λ x. is_free avoid x ≡ true) is.reached is.free) in
    is.reached ∙ sym (ap (λ o. unwrap_or o s) found)

-- the fresh stamp is the first free one: one of the first length avoid + 2 is free
pub IsFresh-fresh : (s : Stamp) (avoid : List Stamp) → length avoid < 2 ^ 63 → IsFresh s avoid (fresh s avoid)
IsFresh-fresh s avoid small =
    elim (first-or-none (λ k. is_free avoid (later s k)) (length avoid + 2)) [
      | inl first ↦
          let is : IsFresh s avoid (later s first.place) = record {
            steps = first.place;
            few = omega (arith, first.below);
            reached = refl;
            free = first.passes;
            least = λ j before free. both_ways _ (first.before j before) free;
          } in
          subst (IsFresh s avoid) (fresh_from_IsFresh s avoid _ is) is
      | inr none ↦ absurd (some-free s avoid small none)
    ]

-- the first free one of the stamps from s on is fresh
pub first-is-fresh : (s : Stamp) (avoid : List Stamp) (r : Stamp) (n : ℕ) → length avoid < 2 ^ 63 → r ≡ later s n
    → ((j : ℕ) → j < n → ¬ (is_free avoid (later s j) ≡ true)) → is_free avoid r ≡ true → IsFresh s avoid r
first-is-fresh s avoid r n small reached passed free = record {
  steps = n;
  few = elim (cases_lt n (length avoid + 2)) [
    | inl few ↦ omega arith
    | inr many ↦ absurd (some-free s avoid small (λ k below. false_from_ne_true _ (passed k (omega arith))))
  ];
  reached = reached;
  free = free;
  least = passed;
}

-- where length avoid + 1 stamps from s on are not free, or more, the next one is fresh
pub last-is-fresh : (s : Stamp) (avoid : List Stamp) (r : Stamp) (n : ℕ) → length avoid < 2 ^ 63 → length avoid + 1 ≤ n → r ≡ later s n
    → ((j : ℕ) → j < n → ¬ (is_free avoid (later s j) ≡ true)) → IsFresh s avoid r
last-is-fresh s avoid r n small all reached passed =
    first-is-fresh s avoid r n small reached passed (rw reached (true_from_ne_false _ (λ last. some-free s avoid small (λ k below.
    elim (cases_lt k n) [
      | inl before ↦ false_from_ne_true _ (passed k before)
      | inr past ↦ let at : k ≡ n = omega arith in rw at last
    ]))))

-- a stamp is free where it is not 0, and a test that tells says that it is not taken
pub free-from_test : (taken : List Stamp) (s : Stamp) (r : Bool) → r ≡ list_any (λ a. eqb a.0 s.0) taken → s.0 ≢ 0 → r ≡ false
    → is_free taken s ≡ true
unfolding is_free
free-from_test taken s r tells known free = rw (ne_eqb s.0 0 known, sym tells, free) refl

-- and not where it says that it is
pub taken-from_test : (taken : List Stamp) (s : Stamp) (r : Bool) → r ≡ list_any (λ a. eqb a.0 s.0) taken → r ≡ true
    → is_free taken s ≡ true → ⊥
unfolding is_free
taken-from_test taken s r tells found free = grind (arith, both_ways, not-true, and_parts)

-- a free stamp is not 0
pub free-nonzero : (avoid : List Stamp) (r : Stamp) → is_free avoid r ≡ true → r.0 ≢ 0
unfolding is_free
free-nonzero avoid r free = eqb-false r.0 0 (not-true _ (and_parts (not (eqb r.0 0)) _ free).0)

-- a free stamp is none of those to avoid
pub free-apart : (avoid : List Stamp) (r a : Stamp) → is_free avoid r ≡ true → Contains avoid a → a ≢ r
unfolding is_free
free-apart avoid r a free member same = grind (arith, both_ways, not-true, and_parts, list_any_at, eq-eqb)

-- the first free stamp is not 0
pub IsFresh-nonzero : {s : Stamp} {avoid : List Stamp} {r : Stamp} → IsFresh s avoid r → r.0 ≢ 0
IsFresh-nonzero {s} {avoid} {r} is = free-nonzero avoid r is.free

-- the first free stamp is none of those to avoid
pub IsFresh-apart : {s : Stamp} {avoid : List Stamp} {r : Stamp} → IsFresh s avoid r → (a : Stamp) → Contains avoid a → a ≢ r
IsFresh-apart {s} {avoid} {r} is a member = free-apart avoid r a is.free member

-- the first free stamp has 64 bits
pub IsFresh-below : {s : Stamp} {avoid : List Stamp} {r : Stamp} → IsFresh s avoid r → r.0 < 2 ^ 64
IsFresh-below is = rw is.reached (omega arith)

-- a fresh stamp is not 0
pub fresh-nonzero : (s : Stamp) (avoid : List Stamp) → length avoid < 2 ^ 63 → (fresh s avoid).0 ≢ 0
fresh-nonzero s avoid small = IsFresh-nonzero (IsFresh-fresh s avoid small)

-- a fresh stamp is none of those to avoid
pub fresh-apart : (s : Stamp) (avoid : List Stamp) → length avoid < 2 ^ 63 → (a : Stamp) → Contains avoid a → a ≢ fresh s avoid
fresh-apart s avoid small = IsFresh-apart (IsFresh-fresh s avoid small)

-- a fresh stamp has 64 bits
pub fresh-below : (s : Stamp) (avoid : List Stamp) → length avoid < 2 ^ 63 → (fresh s avoid).0 < 2 ^ 64
fresh-below s avoid small = IsFresh-below (IsFresh-fresh s avoid small)

-- a stamp that is not 0 and none of those to avoid is free
pub free-from_apart : (avoid : List Stamp) (s : Stamp) → s.0 ≢ 0 → ((a : Stamp) → Contains avoid a → a ≢ s) → is_free avoid s ≡ true
unfolding is_free
free-from_apart avoid s known apart = grind (arith, and_from, not_from_false, ne_eqb, false_from_ne_true, Any-from_list_any, eqb-true)

-- the first candidate that is free, and what a test tells of it
pub ruleset freshness = (cases_lt, first-is-fresh, last-is-fresh, free-nonzero, free-from_test, taken-from_test)
