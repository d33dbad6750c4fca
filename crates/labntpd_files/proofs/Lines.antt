-- A line with a line feed behind it, and without.
use Rattle.std.proofs.Common.{◌≡◌, ◌≢◌, ℕ, List, [], ◌∷◌, ◌++◌, Option, Some, None, Bor, refl, sym, ap, ◌∙◌, arith}
use Rattle.std.specs.Option.{MatchOption, unwrap_or}
use Rattle.std.proofs.lemmas.Bool.Decides.{nat_tests}
use Rattle.labntpd_files.specs.KeyText.{first_line}

pub first_line-with : (line : List ℕ) → first_line (line ++ 10 ∷ []) ≡ line
first_line-with [] = refl
first_line-with (x ∷ []) = refl
first_line-with (x ∷ y ∷ others) = ap (λ l. x ∷ l) (first_line-with (y ∷ others))

pub first_line-without : (text : List ℕ) → ((front : List ℕ) → text ≢ front ++ 10 ∷ []) → first_line text ≡ text
first_line-without [] none = refl
first_line-without (x ∷ []) none = let other : x ≢ 10 = λ e. none [] (ap (λ n. n ∷ []) e) in grind (arith, nat_tests)
first_line-without (x ∷ y ∷ others) none = ap (λ l. x ∷ l) (first_line-without (y ∷ others) (λ front e. none (x ∷ front) (ap (λ l. x ∷ l) e)))

pub first_line-is : (text : Bor (List ℕ)) (r : Option (Bor (List ℕ)))
    → MatchOption r ((front : List ℕ) → text.now ≢ front ++ 10 ∷ []) (λ x. text.now ≡ x.now ++ 10 ∷ [])
    → (unwrap_or r text).now ≡ first_line text.now
first_line-is text None none = sym (first_line-without text.now none)
first_line-is text (Some line) whole = sym (first_line-with line.now) ∙ ap first_line (sym whole)
