use Rattle.std.proofs.Common.{◌≡◌, ◌+◌, ◌-◌, ◌≤◌, ◌^◌}
use Rattle.std.specs.Prelude.{IfSome}
use Rattle.ntp_host.specs.{Wire.idle_before, UdpPort.told_by}
use Rattle.ntp_host.proofs.udp_port.UdpPortPort.receive.Given as goal

abbrev pub invariant-loop-wait : goal.invariant-loop-wait
invariant-loop-wait g l = record {
  receives : l.self.counts.failed_receives ≡ l.fn.self.counts.failed_receives;
  sends : l.self.counts.failed_sends ≡ l.fn.self.counts.failed_sends;
  dropped : l.self.counts.dropped ≡ l.fn.self.counts.dropped;
  turns : told_by l.self ≡ told_by l.fn.self;
  left : IfSome (g.W.Wire.turns l.self.wire) (λ told. idle_before told + l._wait ≤ 2 ^ 64 - 2);
}
