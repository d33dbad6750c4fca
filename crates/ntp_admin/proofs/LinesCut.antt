-- The complete lines of a text, cut off from the left.
use Rattle.std.proofs.Common.{◌≡◌, ℕ, ◌+◌, ◌-◌, ◌<◌, ◌≤◌, ◌==◌, List, [], ◌∷◌, length, take, drop, Option, Some, None, Bor, arith, sym, ap, ◌∙◌}
use Rattle.std.specs.{Prelude.MatchOption, List.position}
use Rattle.std.proofs.{lemmas.Bool.Decides.nat_tests, lemmas.List.Elements.All-from_get_or}
use Rattle.std.proofs.lemmas.List.Sums.{fails_before_first, count_by-le-length}
use Rattle.std.proofs.lemmas.Str.Pattern.{IsSplitOnceResult}
use Rattle.std.proofs.lemmas.List.{length-take, length-drop, drop-drop}
use Rattle.std.proofs.lemmas.List.Splits.{length-slice_split, slice_split_none, slice_split_first}
use Rattle.ntp_admin.specs.{Words.parts, CommandsFile.complete_lines}
use Rattle.ntp_admin.proofs.Cuts.{parts-split}

-- all but the last, where there are more than one
abbrev all_but_last : {X : Type 0} → List X → List X
all_but_last xs = take (length xs - 1) xs

all_but_last-cons : {X : Type 0} (x : X) (xs : List X) → 0 < length xs → all_but_last (x ∷ xs) ≡ x ∷ all_but_last xs
all_but_last-cons x xs e = grind arith

-- the first complete line, and those behind it
complete_lines-first : (text line others : List ℕ) → parts 10 text ≡ line ∷ parts 10 others
    → complete_lines text ≡ line ∷ complete_lines others
complete_lines-first text line others cut = grind (arith, all_but_last-cons, length-slice_split)

-- what `split_once` gives at a line feed
pub complete_lines-split : (text : List ℕ) (r : Option (Bor (List ℕ) × Bor (List ℕ))) → IsSplitOnceResult 10 text r
    → MatchOption r (complete_lines text ≡ []) (λ x. complete_lines text ≡ x.0.now ∷ complete_lines x.1.now)
complete_lines-split text r e = grind (arith, parts-split, complete_lines-first)

-- there is no line feed
pub complete_lines-none : (octets : List ℕ) → None ≡ position (λ c. c == 10) octets → complete_lines octets ≡ []
complete_lines-none octets none = grind (arith, nat_tests, slice_split_none, All-from_get_or, fails_before_first)

-- or there it is
pub complete_lines-at : (octets : List ℕ) (end : ℕ) → Some end ≡ position (λ c. c == 10) octets
    → (end < length octets) × (complete_lines octets ≡ take end octets ∷ complete_lines (drop (end + 1) octets))
complete_lines-at octets end at = grind (arith, nat_tests, complete_lines-first, slice_split_first)

-- there are no more lines than octets
pub complete_lines-few : (octets : List ℕ) → length (complete_lines octets) ≤ length octets
complete_lines-few octets = grind (arith, length-take, length-slice_split, count_by-le-length)

-- what stands behind one line more
pub behind-more : {X : Type 0} (all xs others : List X) (x : X) (n : ℕ) → xs ≡ drop n all → xs ≡ x ∷ others
    → (n + 1 ≤ length all) × (others ≡ drop (n + 1) all)
behind-more all xs others x n left cut = (
  omega (arith, length-drop n all, ap length left, ap length cut),
  ap (drop 1) (sym cut ∙ left) ∙ drop-drop 1 n all,
)
