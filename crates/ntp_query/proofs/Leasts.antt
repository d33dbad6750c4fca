-- The answer of least delay among the first outcomes.
use Rattle.std.proofs.Common.{◌≡◌, ℕ, ◌+◌, ◌<◌, ◌≤◌, List, length, get_or, Option, Some, None, true≢false, ◌⊎◌, inl, inr, sym, ap, ◌∙◌, subst, arith}
use Rattle.std.specs.Prelude.{◌≤ℤ◌, IfSome, IsSomeAnd, IsNone, Contains}
use Rattle.std.proofs.{lemmas.Bool.cases_lt, lemmas.List.get_or_default, lemmas.Int.ints}
use Rattle.ntp_client.specs.Sample.{delay}
use Rattle.ntp_query.specs.{declared.answer.Answer.Answer, declared.outcome.Outcome.Outcome, Outcome.answer_in}
use Rattle.ntp_query.specs.declared.outcome.Outcome.TheVariants.{Answered, Rate, Deny, Nak, Kiss, Refused, Silence, Unreachable}

-- an answer is among the first outcomes
abbrev pub AmongFirst : List Outcome → ℕ → Answer → Type 0
AmongFirst outcomes n a = (k : ℕ) × (k < n) × (get_or outcomes k (Answered a) ≡ Answered a)

-- one takes no longer than another
abbrev pub NoLonger : Answer → Answer → Type 0
NoLonger a b = delay a.sample ≤ℤ delay b.sample

NoLonger-trans : (a b d : Answer) → NoLonger a b → NoLonger b d → NoLonger a d
NoLonger-trans a b d first second = omega (arith, ints, first, second)

through : (q : Answer) (l : Option Answer) (b : Answer) → IfSome l (λ x. NoLonger q x) → IsSomeAnd l (λ x. NoLonger x b) → NoLonger q b
through q None b f s = absurd s
through q (Some x) b f s = NoLonger-trans q x b f s

-- the answer of least delay among them, if there is one
pub record IsLeast (outcomes : List Outcome) (n : ℕ) (least : Option Answer) : Type 0 where
  pub given : IfSome least (AmongFirst outcomes n)
  pub bound : (b : Answer) → AmongFirst outcomes n b → IsSomeAnd least (λ a. NoLonger a b)

pub IsLeast-none : (outcomes : List Outcome) → IsLeast outcomes 0 None
IsLeast-none outcomes = record { given = tt; bound = λ b among. absurd (omega (arith, among.1)) }

-- among one outcome more
more : (outcomes : List Outcome) (n : ℕ) (a : Answer) → AmongFirst outcomes n a → AmongFirst outcomes (n + 1) a
more outcomes n a among = (among.0, omega (arith, among.1), among.2)

more-given : (outcomes : List Outcome) (n : ℕ) (least : Option Answer) → IfSome least (AmongFirst outcomes n)
    → IfSome least (AmongFirst outcomes (n + 1))
more-given outcomes n None given = tt
more-given outcomes n (Some a) given = more outcomes n a given

-- an answer that is among them is among the first, or the last of them
last : (outcomes : List Outcome) (n : ℕ) (o : Outcome) (b : Answer) → n < length outcomes → o ≡ get_or outcomes n o
    → AmongFirst outcomes (n + 1) b → AmongFirst outcomes n b ⊎ (o ≡ Answered b)
last outcomes n o b inside is among =
    elim (cases_lt among.0 n) [
      | inl before ↦ inl (among.0, before, among.2)
      | inr here ↦ inr (is ∙ get_or_default outcomes n o (Answered b) inside
          ∙ ap (λ k. get_or outcomes k (Answered b)) (omega (arith, among.1)) ∙ among.2)
    ]

no-answer : (o : Outcome) (b : Answer) → answer_in o ≡ None → o ≡ Answered b → ⊥
no-answer o b none is = let both : None ≡ Some b = sym none ∙ ap answer_in is in cc

the-answer : (o : Outcome) (a : Answer) → answer_in o ≡ Some a → o ≡ Answered a
the-answer (Answered x) a is = let same : x ≡ a = cc in ap Answered same
the-answer Rate a is = cc
the-answer Deny a is = cc
the-answer Nak a is = cc
the-answer (Kiss code) a is = cc
the-answer (Refused why) a is = cc
the-answer Silence a is = cc
the-answer (Unreachable why) a is = cc

-- one outcome more, which is no answer, or is one that takes longer than another or not
pub IsLeast-without : (outcomes : List Outcome) (n : ℕ) (d : Outcome) (least : Option Answer) → n < length outcomes
    → answer_in (get_or outcomes n d) ≡ None → IsLeast outcomes n least → IsLeast outcomes (n + 1) least
IsLeast-without outcomes n d least inside none so =
    let is = get_or_default outcomes n d (get_or outcomes n d) inside in
    record {
      given = more-given outcomes n least so.given;
      bound = λ b among. elim (last outcomes n (get_or outcomes n d) b inside is among) [
        | inl before ↦ so.bound b before
        | inr here ↦ absurd (no-answer (get_or outcomes n d) b none here)
      ];
    }

pub IsLeast-with : (outcomes : List Outcome) (n : ℕ) (d : Outcome) (least : Option Answer) (a q : Answer) → n < length outcomes
    → answer_in (get_or outcomes n d) ≡ Some a → (q ≡ a) ⊎ (least ≡ Some q) → NoLonger q a → IfSome least (λ x. NoLonger q x)
    → IsLeast outcomes n least → IsLeast outcomes (n + 1) (Some q)
IsLeast-with outcomes n d least a q inside some either next former so =
    let o = get_or outcomes n d in
    let is = get_or_default outcomes n d o inside in
    record {
      given = elim either [
        | inl same ↦ (
          n,
          omega arith,
          subst (λ x. get_or outcomes n (Answered x) ≡ Answered x) (sym same)
              (get_or_default outcomes n (Answered a) o inside ∙ sym is ∙ the-answer o a some),
        )
        | inr same ↦ more-given outcomes n (Some q) (subst (λ l. IfSome l (AmongFirst outcomes n)) same so.given)
      ];
      bound = λ b among. elim (last outcomes n o b inside is among) [
        | inl before ↦ through q least b former (so.bound b before)
        | inr here ↦ let both : Some a ≡ Some b = sym some ∙ ap answer_in here in let same : a ≡ b = cc in subst (λ x. NoLonger q x) same next
      ];
    }

-- what holds among all outcomes
pub IsLeast-given : (outcomes : List Outcome) (n : ℕ) (least : Option Answer) → n ≤ length outcomes → IsLeast outcomes n least
    → IfSome least (λ a. Contains outcomes (Answered a))
IsLeast-given outcomes n None all so = tt
IsLeast-given outcomes n (Some a) all so = (so.given.0, omega (arith, so.given.1), so.given.2)

pub IsLeast-least : (outcomes : List Outcome) (n : ℕ) (least : Option Answer) → length outcomes ≤ n → IsLeast outcomes n least
    → IfSome least (λ a. (b : Answer) → Contains outcomes (Answered b) → NoLonger a b)
IsLeast-least outcomes n None all so = tt
IsLeast-least outcomes n (Some a) all so = λ b has. so.bound b (has.0, omega (arith, has.1), has.2)

pub IsLeast-some : (outcomes : List Outcome) (n : ℕ) (least : Option Answer) → length outcomes ≤ n → IsLeast outcomes n least → IsNone least
    → (b : Answer) → Contains outcomes (Answered b) → ⊥
IsLeast-some outcomes n None all so none b has = so.bound b (has.0, omega (arith, has.1), has.2)
IsLeast-some outcomes n (Some a) all so none b has = true≢false none
