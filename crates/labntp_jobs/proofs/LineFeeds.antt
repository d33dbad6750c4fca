-- Where the lines of a text end.
use Rattle.std.proofs.Common.{◌≡◌, ◌≢◌, ℕ, List, [], ◌∷◌, ◌++◌, length, refl, ap, ◌∙◌, arith}
use Rattle.std.specs.Prelude.{All}
use Rattle.std.proofs.{lemmas.Bool.ne_eqb, lemmas.List.Elements.All-head, lemmas.List.Elements.All-tail}
use Rattle.labntp_jobs.specs.Script.{begin_line, lines_of}

-- no octet of it is a line feed
abbrev pub IsUnbroken : List ℕ → Type 0
IsUnbroken line = All (λ x. x ≢ 10) line

-- an octet that is no line feed begins a line
lines_of-octet : (x : ℕ) (more : List ℕ) → x ≢ 10 → lines_of (x ∷ more) ≡ begin_line x (lines_of more)
lines_of-octet x more ne = rw (ne_eqb x 10 ne)

-- a line feed ends a line
pub lines_of-ended : (line more : List ℕ) → IsUnbroken line → lines_of (line ++ 10 ∷ more) ≡ line ∷ lines_of more
lines_of-ended [] more h = refl
lines_of-ended (x ∷ xs) more h =
    lines_of-octet x (xs ++ 10 ∷ more) (All-head (λ x. x ≢ 10) x xs h)
    ∙ ap (begin_line x) (lines_of-ended xs more (All-tail (λ x. x ≢ 10) x xs h))

-- what follows the last line feed is a line
pub lines_of-last : (line : List ℕ) → IsUnbroken line → length line ≢ 0 → lines_of line ≡ line ∷ []
lines_of-last [] h ne = absurd (ne refl)
lines_of-last (x ∷ []) h ne = lines_of-octet x [] (All-head (λ x. x ≢ 10) x [] h)
lines_of-last (x ∷ y ∷ ys) h ne =
    lines_of-octet x (y ∷ ys) (All-head (λ x. x ≢ 10) x (y ∷ ys) h)
    ∙ ap (begin_line x) (lines_of-last (y ∷ ys) (All-tail (λ x. x ≢ 10) x (y ∷ ys) h) (omega arith))

-- the line that an octet begins
begin_line-first : (x : ℕ) (lines : List (List ℕ)) → (tail : List ℕ) × (others : List (List ℕ)) × (begin_line x lines ≡ (x ∷ tail) ∷ others)
begin_line-first x [] = ([], [], refl)
begin_line-first x (line ∷ lines) = (line, lines, refl)

-- a line that has begun goes on
pub lines_of-begun : (line more : List ℕ) → IsUnbroken line → length line ≢ 0
    → (tail : List ℕ) × (others : List (List ℕ)) × (lines_of (line ++ more) ≡ (line ++ tail) ∷ others)
lines_of-begun [] more h ne = absurd (ne refl)
lines_of-begun (x ∷ []) more h ne =
    let r = begin_line-first x (lines_of more) in
    (r.0, r.1, lines_of-octet x more (All-head (λ x. x ≢ 10) x [] h) ∙ r.2)
lines_of-begun (x ∷ y ∷ ys) more h ne =
    let r = lines_of-begun (y ∷ ys) more (All-tail (λ x. x ≢ 10) x (y ∷ ys) h) (omega arith) in
    (r.0, r.1, lines_of-octet x ((y ∷ ys) ++ more) (All-head (λ x. x ≢ 10) x (y ∷ ys) h) ∙ ap (begin_line x) r.2)
