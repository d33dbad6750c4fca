use Rattle.std.specs.Prelude.{◌≡◌}
use Rattle.ntp_server.proofs.Looking.{Starting}
use Rattle.ntp_server.proofs.server.Server.start.Given as goal

abbrev pub invariant-loop-look : goal.invariant-loop-look
invariant-loop-look g l = record {
  port : l.self.port ≡ l.fn.self.port;
  reference : l.self.reference ≡ l.fn.self.reference;
  starting : Starting l.fn.self l.self
      (record { port = g.P.Port.told; counts = g.P.Port.counts; looked = g.C.CommandsSource.looked; asked = g.R.ReferenceSource.asked; tended = g.R.ReferenceSource.tended; heard = g.O.Observer.heard })
      l._look;
}
