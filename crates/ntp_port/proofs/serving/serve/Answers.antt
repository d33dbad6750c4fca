use Rattle.std.proofs.Common.{arith}
use Rattle.ntp_port.proofs.{Counting.counts-one, Counting.ServeMakes-nil, Counting.ServeMakes-turn, ManyTurns.Makes-few, Taking.takes-turn}
use Rattle.ntp_port.proofs.serving.serve.Goals as goal

pub loop-turn-init : goal.loop-turn-init
loop-turn-init g c = record {
  failures = omega arith;
  arrivals = omega arith;
  sent = omega arith;
  departed = omega arith;
  makes = ServeMakes-nil _ _ _ _ _ _;
}

pub loop-turn-preserved : goal.loop-turn-preserved
loop-turn-preserved g c =
    let before = g.P.Port.counts c.loop-turn.port in
    let after = g.P.Port.counts c.answer_received-outcome.new.port in
    let taken = takes-turn _ _ _ _ _ _ _ before _ after _ _ _ c.receive-received.ensures.counts _ c.receive-received.ensures.turns
    c.answer_received-outcome.ensures.idle c.answer_received-outcome.ensures.makes in
    let one = counts-one c.answer_received-outcome.result c.loop-turn.served in
    rw c.count.ensures (record {
      failures = omega (arith, c.loop-turn.invariant.failures, Makes-few _ _ before after _ _ taken.port);
      arrivals = omega (arith, c.loop-turn.invariant.arrivals, one.arrivals);
      sent = omega (arith, c.loop-turn.invariant.sent, one.sent);
      departed = omega (arith, c.loop-turn.invariant.departed, one.departed);
      makes = ServeMakes-turn _ _ _ _ _ _ _ _ _ _ _ _ _ _ _ _ _ _ c.loop-turn.invariant.makes taken;
    })
