use Rattle.std.proofs.Common.{Ok, Err, subst, rules}
use Rattle.ntp_host.specs.Wire.{WireReceives}
use Rattle.ntp_host.proofs.Wires.{receives-none, receives-some}
use Rattle.ntp_host.proofs.udp_port.UdpPort.take.Goals as goal

pub returns-in-Ok-default-V4-clause-turns : goal.returns-in-Ok-default-V4-clause-turns
returns-in-Ok-default-V4-clause-turns g c =
    receives-some c.args.self.now.shown c.args.self.now.has_tried_send _ (g.W.Wire.turns c.args.self.now.wire) (g.W.Wire.turns c.receive.new.self)
    (g.W.Wire.turns c.now-receipt.new.self) c.in-Ok-default-V4.source _ c.receive.new.room (search rules) (search rules)
    (subst (λ s. WireReceives (g.W.Wire.turns c.args.self.now.wire) (g.W.Wire.turns c.receive.new.self) (Ok (c.in-Ok-default-V4.length, s)) c.receive.new.room)
    c.in-Ok-default-V4.field-0-1-is c.in-Ok-default-V4.ensures.turns) c.now-receipt.ensures.turns

pub returns-in_default-clause-turns : goal.returns-in_default-clause-turns
returns-in_default-clause-turns g c =
    rw (c.failed-in_default.ensures.fault, c.failed-in_default.ensures.wire, c.failed-in_default.ensures.shown)
    (receives-none c.args.self.now.shown c.args.self.now.has_tried_send _ (g.W.Wire.turns c.args.self.now.wire) (g.W.Wire.turns c.receive.new.self)
    (Err c.in-Err.error) c.receive.new.room (search rules) c.in-Err.ensures.turns)
