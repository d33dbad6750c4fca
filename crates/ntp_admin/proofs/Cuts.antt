-- A text cut at its first separator.
use Rattle.std.proofs.Common.{◌≡◌, ℕ, ◌<◌, ◌==◌, ◌≢◌, List, [], ◌∷◌, ◌++◌, length, get_or, Option, Bor, arith, false, ◌∙◌, ap}
use Rattle.std.specs.Prelude.{MatchOption}
use Rattle.std.proofs.{lemmas.Bool.Decides.nat_tests, lemmas.List.Elements.All-from_get_or}
use Rattle.std.proofs.lemmas.List.Splits.{slice_split_none, slice_split_at}
use Rattle.std.proofs.lemmas.Str.Pattern.{IsSplitOnceResult, split_parts}
use Rattle.ntp_admin.specs.Words.{parts}

-- no separator: one part
pub parts-one : (c : ℕ) (text : List ℕ) → ((i : ℕ) → i < length text → get_or text i 0 ≢ c) → parts c text ≡ text ∷ []
parts-one c text none =
    slice_split_none (λ b. b == c) text
    (All-from_get_or (λ b. (b == c) ≡ false) text 0 (λ i inside. let other = none i inside in grind (arith, nat_tests)))

-- the part before the first separator, and the parts behind it
pub parts-first : (c : ℕ) (text front back : List ℕ) → text ≡ front ++ (c ∷ back)
    → ((i : ℕ) → i < length front → get_or front i 0 ≢ c) → parts c text ≡ front ∷ parts c back
parts-first c text front back whole none =
    ap (parts c) whole ∙ slice_split_at (λ b. b == c) front c back
    (All-from_get_or (λ b. (b == c) ≡ false) front 0 (λ i inside. let other = none i inside in grind (arith, nat_tests)))
    (grind (arith, nat_tests))

-- what `split_once` gives
pub parts-split : (c : ℕ) (text : List ℕ) (r : Option (Bor (List ℕ) × Bor (List ℕ))) → IsSplitOnceResult c text r → c < 128
    → MatchOption r (parts c text ≡ text ∷ []) (λ x. parts c text ≡ x.0.now ∷ parts c x.1.now)
parts-split c text r e f = grind (arith, parts-one, split_parts, parts-first)
