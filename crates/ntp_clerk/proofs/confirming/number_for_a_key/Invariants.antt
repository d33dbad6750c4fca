use Rattle.ntp_clerk.proofs.Lowest.{Passed}
use Rattle.ntp_clerk.proofs.confirming.number_for_a_key.Given as goal

abbrev pub invariant-loop-number : goal.invariant-loop-number
invariant-loop-number l = Passed l.used l.service l.lowest l.number-counter
