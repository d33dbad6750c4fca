use Rattle.std.proofs.Common.{arith}
use Rattle.ntp_client.specs.InForce.{drift}
use Rattle.ntp_client.proofs.answer.drift.Goals as goal

-- rounding up, as whole and rest are in one quotient
pub returns-clause-value : goal.returns-clause-value
unfolding drift
returns-clause-value c = omega (arith, c.div_ceil.ensures)
