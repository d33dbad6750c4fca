use Rattle.std.proofs.Common.{false}
use Rattle.ntp_port.specs.{Port.CountsReceive, Fresh.kept_by}
use Rattle.ntp_port.proofs.Waiting.{HasWaited}
use Rattle.ntp_port.proofs.fresh_port.FreshPortPort.receive.Given as goal

abbrev pub invariant-loop-wait : goal.invariant-loop-wait
invariant-loop-wait g l = record {
  counts : CountsReceive l.fn.self.counts l.self.counts false;
  waits : HasWaited l._wait (kept_by l.fn.self)
      (kept_by l.self) l.datagram;
}
