use Rattle.ntp_query.proofs.Leasts.{IsLeast}
use Rattle.ntp_query.proofs.outcome.least_delay.Given as goal

abbrev pub invariant-loop-outcome : goal.invariant-loop-outcome
invariant-loop-outcome l = IsLeast l.outcomes l.outcome-index l.least
