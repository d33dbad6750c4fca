use Rattle.std.proofs.Common.{ap, refl}
use Rattle.ntp_host.proofs.Wires.{over, waits-none, stays}
use Rattle.ntp_host.proofs.udp_port.UdpPortQueuedPort.take_in_time.Goals as goal

pub returns-then-wait-clause-turns : goal.returns-then-wait-clause-turns
returns-then-wait-clause-turns g c =
    rw (c.failed.ensures.fault, c.failed.ensures.wire, c.failed.ensures.shown)
    (waits-none c.args.self.now.shown c.args.self.now.has_tried_send _ (g.W.Wire.turns c.args.self.now.wire) (g.W.Wire.turns c.wait.new.self)
    c.args.room.now c.if-wait.ensures.turns)

pub returns-clause-nothing : goal.returns-clause-nothing
returns-clause-nothing g c =
    stays _ c.take.result _ _ _ refl c.take.ensures.nothing
    (ap (over c.args.self.now.shown c.args.self.now.has_tried_send) c.if-wait.ensures.turns)
