-- Lists of lines that were taken.
use Rattle.std.proofs.Common.{◌≡◌, ℕ, ◌+◌, ◌<◌, ◌^◌, List, [], ◌∷◌, ◌++◌, length, arith, refl, sym, ap, ◌∙◌, subst, append_assoc}
use Rattle.std.proofs.{lemmas.List.length-map, lemmas.List.map-append, lemmas.Grind.flat_map-append}
use Rattle.ntp_service.specs.{Registry.Registry, declared.observation.Observation.Observation, InTurn.InTurn, Headline.Tells}
use Rattle.ntp_service.proofs.PublicLaws.{InTurn-append, Tells-nil, Tells-append}
use Rattle.ntp_admin.specs.CommandsFile.{line_reading, count_on, TakenLine, happened_read, observed_read, happened_at_lines, line_observations, CarriesOut}
use Rattle.ntp_admin.specs.Applying.{AppliesLine}

-- ---- numbers
pub count_on-none : (before : ℕ) → before < 2 ^ 64 → before ≡ count_on before 0
count_on-none before fits = omega arith

pub count_on-more : (before some more : ℕ) → count_on (count_on before some) more ≡ count_on before (some + more)
count_on-more before some more = omega arith

-- ---- some lines and then others
line_observations-append : (most before : ℕ) (xs ys : List TakenLine) → before < 2 ^ 64
    → line_observations most before (xs ++ ys) ≡ line_observations most before xs ++ line_observations most (count_on before (length xs)) ys
line_observations-append most before [] ys fits = ap (λ n. line_observations most n ys) (count_on-none before fits)
line_observations-append most before (x ∷ xs) ys fits =
    let next = count_on before 1 in
    let first = observed_read next (line_reading most x.line) x.result in
    let later = line_observations most next xs in
    let count : count_on next (length xs) ≡ count_on before (length (x ∷ xs)) = omega arith in
    ap (λ l. first ++ l) (line_observations-append most next xs ys (omega arith))
    ∙ sym (append_assoc first later (line_observations most (count_on next (length xs)) ys))
    ∙ ap (λ n. (first ++ later) ++ line_observations most n ys) count

-- ---- one line more
module _ (most : ℕ) (taken : List TakenLine) (t : TakenLine) where
  happened-more : {A : Type 0}
      → happened_at_lines {A = A} most (taken ++ t ∷ []) ≡ happened_at_lines most taken ++ happened_read (line_reading most t.line) t.result
  happened-more = grind (arith, flat_map-append, most, taken, t)

  line_observations-more : (before : ℕ) → before < 2 ^ 64 → line_observations most before (taken ++ t ∷ [])
      ≡ line_observations most before taken ++ observed_read (count_on before (length taken + 1)) (line_reading most t.line) t.result
  line_observations-more before fits = grind (arith, line_observations-append, most, taken, t, count_on-more)

-- no line was carried out
pub CarriesOut-none : (A : Type 0) (most before : ℕ) (s : Registry) (Heard : List Observation → Type 0) → Heard []
    → CarriesOut A most before [] s s Heard
CarriesOut-none A most before s Heard heard = record {
  taken = [];
  these = refl;
  observed = heard;
  tells = λ history stands. Tells-nil history s stands;
}

-- and then one more
pub CarriesOut-more : {O : Type 0} (Heard : O → O → Observation → Type 0) (A : Type 0) (most before number : ℕ) (lines : List (List ℕ))
    (line : List ℕ) (old mid new : Registry) (earlier halfway later : O) → before < 2 ^ 64 → number ≡ count_on before (length lines + 1)
    → CarriesOut A most before lines old mid (InTurn Heard earlier halfway) → AppliesLine A most number line mid new (InTurn Heard halfway later)
    → CarriesOut A most before (lines ++ line ∷ []) old new (InTurn Heard earlier later)
CarriesOut-more Heard A most before number lines line old mid new earlier halfway later fits place c one =
    let t : TakenLine = record { line = line; result = one.0 } in
    let many : length lines ≡ length c.taken = sym (ap length c.these) ∙ length-map c.taken (λ x. x.line) in
    let same : number ≡ count_on before (length c.taken + 1) = place ∙ ap (λ n. count_on before (n + 1)) many in
    record {
      taken = c.taken ++ t ∷ [];
      these = map-append (λ x. x.line) c.taken (t ∷ []) ∙ ap (λ ls. ls ++ line ∷ []) c.these;
      observed = subst (λ os. InTurn Heard earlier later os) (sym (line_observations-more most c.taken t before fits))
          (InTurn-append Heard _ _ earlier halfway later c.observed
          (subst (λ n. InTurn Heard halfway later (observed_read n (line_reading most line) one.0)) same one.1));
      tells = λ history stands. subst (λ l. Tells history l new) (sym (happened-more most c.taken t))
          (Tells-append history _ _ mid new (c.tells history stands) (λ there. one.2 _ there));
    }
