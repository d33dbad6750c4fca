use Rattle.std.proofs.Common.{◌≡◌, ◌-◌, ◌^◌, false, length}
use Rattle.ntp_service.specs.InTurn.{InTurn}
use Rattle.ntp_port.specs.Port.{CountsReceive, DropsAny}
use Rattle.ntp_server.specs.Steps.{Waits}
use Rattle.ntp_server.proofs.server.Server.wait.Given as goal

abbrev pub invariant-loop-wait : goal.invariant-loop-wait
invariant-loop-wait g l = record {
  port : DropsAny g.P.Port.may_drop (g.P.Port.counts l.fn.self.port).dropped (g.P.Port.counts l.self.port).dropped
      (g.P.Port.told l.fn.self.port) (g.P.Port.told l.self.port);
  counts : CountsReceive (g.P.Port.counts l.fn.self.port) (g.P.Port.counts l.self.port) false;
  waits : (w : Waits l.fn.self l.self
      (record { port = g.P.Port.told; counts = g.P.Port.counts; looked = g.C.CommandsSource.looked; asked = g.R.ReferenceSource.asked; tended = g.R.ReferenceSource.tended; heard = g.O.Observer.heard })
      (InTurn g.Q.Reporter.shown l.fn.reporter l.reporter) g.P.TimedPort.is_prompt) × (length w.rounds ≡ l._wait);
}

abbrev pub decreases-loop-wait : goal.decreases-loop-wait
decreases-loop-wait g l = 2 ^ 64 - l._wait
