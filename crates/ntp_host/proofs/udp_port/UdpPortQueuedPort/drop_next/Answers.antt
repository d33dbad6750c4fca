use Rattle.ntp_host.proofs.Wires.{drops}
use Rattle.ntp_host.proofs.udp_port.UdpPortQueuedPort.drop_next.Goals as goal

pub returns-then-has_dropped-clause-turns : goal.returns-then-has_dropped-clause-turns
returns-then-has_dropped-clause-turns g c =
    rw c.if-has_dropped.true
    (drops c.args.self.now.shown c.args.self.now.has_tried_send _ (g.W.Wire.turns c.args.self.now.wire)
    (g.W.Wire.turns c.drop_next-has_dropped.new.self) c.if-has_dropped.ensures.turns)
