use Rattle.std.specs.Prelude.{◌<◌}
use Rattle.ntp_service.specs.InTurn.{InTurn}
use Rattle.ntp_server.specs.Rounds.{ServesRounds}
use Rattle.ntp_server.proofs.server.Server.serve.Given as goal

abbrev pub invariant-loop-turn : goal.invariant-loop-turn
invariant-loop-turn g l = record {
  rounds : ServesRounds l.fn.self l.self
      (record { port = g.P.Port.told; counts = g.P.Port.counts; looked = g.C.CommandsSource.looked; asked = g.R.ReferenceSource.asked; tended = g.R.ReferenceSource.tended; heard = g.O.Observer.heard })
      (InTurn g.Q.Reporter.shown l.fn.reporter l.reporter) g.P.TimedPort.is_prompt g.P.Port.may_drop l._turn;
  known : 0 < l._turn → g.Q.Reporter.knows l.reporter l.self;
}
