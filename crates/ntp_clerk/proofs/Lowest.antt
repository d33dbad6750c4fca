-- Key numbers that were looked at, one after another.
use Rattle.std.proofs.Common.{◌≡◌, ℕ, ◌+◌, ◌<◌, ◌≤◌, true, false, true≢false, List, Option, Some, None, inl, inr, below_more, eqb-true, eq-eqb, ap, sym, ◌∙◌, arith}
use Rattle.std.specs.Prelude.{Contains, IfNone, IfSome, IsSome, MatchOption, is_some, nat_eq}
use Rattle.std.specs.{Option.option_or, List.list_any, Int.NonZero.non_zero_u16_get, declared.num.NonZeroU16.NonZeroU16}
use Rattle.std.proofs.lemmas.List.Folds.{Any-from_list_any, list_any-from_Any}
use Rattle.ntp_service.specs.Registry.{Registry, holder_of}
use Rattle.ntp_clerk.specs.Confirming.{IsLowest, IsNew, IsNextFree, IsUnheld}

-- no number below this has a property
abbrev pub NoneBelow : (ℕ → Type 0) → ℕ → Type 0
NoneBelow P next = (n : ℕ) → 1 ≤ n → n < next → P n → ⊥

-- below the next number none is new; and the lowest is known that nobody holds, if there is one
pub record Passed (used : List ℕ) (service : Registry) (lowest : Option NonZeroU16) (next : ℕ) : Type 0 where
  pub none_new : NoneBelow (IsNew used service) next
  pub is_lowest : IfSome lowest (λ lowest. IsLowest (IsUnheld service) lowest.value)
  pub none_free : IfNone lowest (NoneBelow (IsUnheld service) next)

one-more : (P : ℕ → Type 0) (next : ℕ) → NoneBelow P next → (P next → ⊥) → NoneBelow P (next + 1)
one-more P next below here = λ n low high. below_more (λ n. 1 ≤ n → P n → ⊥) next (λ n high low. below n low high) (λ low. here) n high low

-- what a test finds is there, and what it does not find is not
found : (used : List ℕ) (number : ℕ) → list_any (λ y. nat_eq y number) used ≡ true → Contains used number
found used number is = grind (arith, Any-from_list_any, eqb-true)

missed : (used : List ℕ) (number : ℕ) → list_any (λ y. nat_eq y number) used ≡ false → Contains used number → ⊥
missed used number is there = grind (arith, list_any-from_Any, eq-eqb)

nobody : {X : Type 0} → (o : Option X) → is_some o ≡ false → o ≡ None
nobody o is = grind arith

module _ (used : List ℕ) (service : Registry) (next : ℕ) (lowest : Option NonZeroU16) (passed : Passed used service lowest next) where
  -- a number that somebody holds is passed
  pub passed-held : IsSome (holder_of service next) → Passed used service lowest (next + 1)
  passed-held held = record {
    none_new = one-more (IsNew used service) next passed.none_new (λ new. taken new.0);
    is_lowest = passed.is_lowest;
    none_free = by-lowest lowest passed.none_free;
  }
    where
      taken : holder_of service next ≡ None → ⊥
      taken none = true≢false (sym held ∙ ap is_some none)

      by-lowest : (o : Option NonZeroU16) → IfNone o (NoneBelow (IsUnheld service) next) → IfNone o (NoneBelow (IsUnheld service) (next + 1))
      by-lowest None below = one-more (IsUnheld service) next below taken
      by-lowest (Some n) below = tt

  module _ (free : is_some (holder_of service next) ≡ false) (this : Option NonZeroU16) (is : MatchOption this (next ≡ 0) (λ x. non_zero_u16_get x ≡ next)) where
    -- one that nobody holds, but was used, is the lowest so far if there was none before
    pub passed-used : 1 ≤ next → list_any (λ y. nat_eq y next) used ≡ true → Passed used service (option_or lowest this) (next + 1)
    passed-used low there = record {
      none_new = one-more (IsNew used service) next passed.none_new (λ new. new.1 (found used next there));
      is_lowest = lowest-of lowest this is passed.is_lowest passed.none_free;
      none_free = none-of lowest this is;
    }
      where
        lowest-of : (o t : Option NonZeroU16) → MatchOption t (next ≡ 0) (λ x. non_zero_u16_get x ≡ next) → IfSome o (λ n. IsLowest (IsUnheld service) n.value)
            → IfNone o (NoneBelow (IsUnheld service) next) → IfSome (option_or o t) (λ n. IsLowest (IsUnheld service) n.value)
        lowest-of (Some n) t is some none = some
        lowest-of None None is some none = tt
        lowest-of None (Some t) is some none = rw is (low, nobody (holder_of service next) free, none)

        none-of : (o t : Option NonZeroU16) → MatchOption t (next ≡ 0) (λ x. non_zero_u16_get x ≡ next)
            → IfNone (option_or o t) (NoneBelow (IsUnheld service) (next + 1))
        none-of (Some n) t is = tt
        none-of None (Some t) is = tt
        none-of None None is = absurd (omega (arith, is, low))

    -- one that is new comes next
    pub new-next : 1 ≤ next → list_any (λ y. nat_eq y next) used ≡ false → IfSome this (λ number. IsNextFree used service number.value)
    new-next low there = by-this this is
      where
        by-this : (t : Option NonZeroU16) → MatchOption t (next ≡ 0) (λ x. non_zero_u16_get x ≡ next) → IfSome t (λ number. IsNextFree used service number.value)
        by-this None is = tt
        by-this (Some t) is = rw is (inl (low, (nobody (holder_of service next) free, missed used next there), passed.none_new))

-- behind the last number
pub passed-all : (used : List ℕ) (service : Registry) (lowest : Option NonZeroU16) → Passed used service lowest 65536
    → IfSome lowest (λ number. IsNextFree used service number.value)
passed-all used service None passed = tt
passed-all used service (Some number) passed = inr ((λ each low high. passed.none_new each low (omega (arith, high))), passed.is_lowest)

pub all-held : (used : List ℕ) (service : Registry) (lowest : Option NonZeroU16) → Passed used service lowest 65536
    → IfNone lowest ((number : ℕ) → 1 ≤ number → number ≤ 65535 → IsSome (holder_of service number))
all-held used service (Some number) passed = tt
all-held used service None passed = λ number low high. held (holder_of service number) (passed.none_free number low (omega (arith, high)))
  where
    held : {X : Type 0} → (o : Option X) → (o ≡ None → ⊥) → IsSome o
    held o ne = grind arith
