use Rattle.std.proofs.Common.{subst, sym, ◌∙◌, ◌+◌}
use Rattle.ntp_query.proofs.Leasts.{IsLeast, IsLeast-none, IsLeast-with, IsLeast-without, IsLeast-given, IsLeast-least, IsLeast-some}
use Rattle.ntp_query.proofs.outcome.least_delay.Goals.{in-Some, in-None}
use Rattle.ntp_query.proofs.outcome.least_delay.Goals as goal

pub loop-outcome-init : goal.loop-outcome-init
loop-outcome-init c = IsLeast-none _

pub loop-outcome-preserved : goal.loop-outcome-preserved
loop-outcome-preserved c = elim c.match-answer.branch [
  | in-Some w ↦ subst (λ l. IsLeast c.args.outcomes.now (c.loop-outcome.outcome-index + 1) l) (sym w.least-is)
      (IsLeast-with _ _ _ _ w.in-Some.answer _ c.loop-outcome-test.true (sym c.answer.ensures ∙ w.in-Some.is) w.quicker.ensures.given
      w.quicker.ensures.next w.quicker.ensures.least c.loop-outcome.invariant)
  | in-None w ↦ subst (λ l. IsLeast c.args.outcomes.now (c.loop-outcome.outcome-index + 1) l) (sym w.least-is)
      (IsLeast-without _ _ _ _ c.loop-outcome-test.true (sym c.answer.ensures ∙ w.in-None.is) c.loop-outcome.invariant)
]

pub returns-clause-given : goal.returns-clause-given
returns-clause-given c = IsLeast-given _ _ _ c.loop-outcome.auto.outcome-index-end c.loop-outcome.invariant

pub returns-clause-least : goal.returns-clause-least
returns-clause-least c = IsLeast-least _ _ _ c.loop-outcome-test.false c.loop-outcome.invariant

pub returns-clause-none : goal.returns-clause-none
returns-clause-none c = IsLeast-some _ _ _ c.loop-outcome-test.false c.loop-outcome.invariant
