use Rattle.std.specs.Prelude.{◌≡◌, ◌<◌, true, IfSome, IsSome}
use Rattle.ntp_client.specs.InForce.{is_read}
use Rattle.ntp_host.proofs.followed_clock.reading.Given as goal

abbrev pub invariant-loop-reading : goal.invariant-loop-reading
invariant-loop-reading g l = record {
  told : g.W.ClockWire.clock_told l.wire ≡ g.W.ClockWire.clock_told l.fn.wire;
  read : (g.W.ClockWire.clock_told l.fn.wire).reads ≡ true → IfSome l.best (λ best. is_read best.0.clock ≡ true);
  some : 0 < l._reading → IsSome l.best;
}
