use Rattle.std.proofs.Common.{rules, ◌≡◌, true, false, sym, ◌∙◌, arith, refl, subst, ℕ, List, [], ◌∷◌, Option, Bor, length, ◌<◌}
use Rattle.std.proofs.lemmas.Bool.Decides.{nat_tests}
use Rattle.std.specs.Prelude.{nat_lt, MatchOption}
use Rattle.ntp_query.proofs.KeyLines.{words-some, words-none, words-last, words-end, rest-shorter}
use Rattle.ntp_query.proofs.key_file.KeyWords.next.Goals.{then-is_empty, else-is_empty}
use Rattle.ntp_query.proofs.key_file.KeyWords.next.Goals as goal

pub returns-then-not-is_empty : goal.returns-then-not-is_empty
returns-then-not-is_empty c =
    let some : nat_lt 0 (length c.in-Some.part.now) ≡ true = grind (arith, nat_tests) in
    sym c.self.view_is ∙ c.loop-part.invariant.words ∙ words-some c.loop-part.rest.now (c.in-Some.part, c.in-Some.behind) c.in-Some.ensures.cases some

pub loop-part-smaller : goal.loop-part-smaller
loop-part-smaller c =
    let shorter : length c.in-Some.behind.now < length c.loop-part.rest.now =
    rest-shorter 32 c.loop-part.rest.now (c.in-Some.part, c.in-Some.behind) (omega arith) c.in-Some.ensures.cases in
    omega arith

pub loop-part-preserved : goal.loop-part-preserved
loop-part-preserved c =
    let none : nat_lt 0 (length c.in-Some.part.now) ≡ false = grind (arith, nat_tests) in
    record {
      utf8 = search rules;
      words = c.loop-part.invariant.words
          ∙ words-none c.loop-part.rest.now (c.in-Some.part, c.in-Some.behind) c.in-Some.ensures.cases none;
    }

pub returns : goal.returns
returns c =
    let P : Option (Bor (List ℕ)) → Type 0 =
    λ r. MatchOption r ((c.args.self.now ≡ []) × (◌≡◌ {A = List (List ℕ)} [] [])) (λ word. c.args.self.now ≡ word.now ∷ []) in
    let before = sym c.self.view_is ∙ c.loop-part.invariant.words in
    elim c.if-is_empty.branch [
      | then-is_empty w ↦
          let none : nat_lt 0 (length c.loop-part.rest.now) ≡ false = grind (arith, nat_tests) in
          subst P (sym w.result-is) (before ∙ words-end c.loop-part.rest.now c.in_default.ensures.cases none, refl)
      | else-is_empty w ↦
          let some : nat_lt 0 (length c.loop-part.rest.now) ≡ true = grind (arith, nat_tests) in
          subst P (sym w.result-is) (before ∙ words-last c.loop-part.rest.now c.in_default.ensures.cases some)
    ]
