use Rattle.std.proofs.Common.{arith}
use Rattle.ntp_reply.proofs.Lengths.{signed-long}
use Rattle.ntp_reply.proofs.deciding.answer.Goals as goal

pub returns-then-not-is_enrolled-clause-no_longer : goal.returns-then-not-is_enrolled-clause-no_longer
returns-then-not-is_enrolled-clause-no_longer g c =
    omega (arith, signed-long c.args.request.now (rw c.request.view_is at c.request.invariant), c.deny.ensures.no_longer)

pub returns-in-Absent-clause-no_longer : goal.returns-in-Absent-clause-no_longer
returns-in-Absent-clause-no_longer g c =
    omega (arith, signed-long c.args.request.now (rw c.request.view_is at c.request.invariant), c.deny-in-Absent.ensures.no_longer)
