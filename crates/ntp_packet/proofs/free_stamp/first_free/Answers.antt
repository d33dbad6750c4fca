use Rattle.std.proofs.Common.{arith}
use Rattle.ntp_packet.proofs.Freshness.{first-is-fresh, free-from_test}
use Rattle.ntp_packet.proofs.free_stamp.first_free.Goals as goal

pub returns-then-not-is_taken : goal.returns-then-not-is_taken
returns-then-not-is_taken g c =
    λ taken tells few. first-is-fresh c.args.s taken c.loop-step.candidate c.loop-step._step (omega arith) c.loop-step.invariant.reached
    (c.loop-step.invariant.passed taken tells)
    (free-from_test taken c.loop-step.candidate c.is_taken.result
    (tells c.loop-step.candidate c.is_taken.result (rw c.loop-step.invariant.reached (omega arith)) c.is_taken.ensures) c.if-candidate-ne0.true
    c.if-not-is_taken.true)
