use Rattle.std.proofs.Common.{rules}
use Rattle.ntp_host.proofs.Wires.{sends-whole, sends-not}
use Rattle.ntp_host.proofs.udp_port.UdpPortPort.send.Goals as goal

pub returns-in-Ok-2-clause-turns : goal.returns-in-Ok-2-clause-turns
returns-in-Ok-2-clause-turns g c =
    rw (c.not_sent.ensures.fault, c.not_sent.ensures.turns)
    (sends-not c.args.self.now.shown c.args.self.now.has_tried_send c.new-target.result c.args.address c.args.port c.args.reply.now
    (search rules) c.new-target.ensures.port (g.W.Wire.turns c.args.self.now.wire) (g.W.Wire.turns c.send.new.self) c.send.result (λ whole. search rules)
    c.send.ensures.turns)

pub returns-in-Err-clause-turns : goal.returns-in-Err-clause-turns
returns-in-Err-clause-turns g c =
    rw (c.not_sent-in-Err.ensures.fault, c.not_sent-in-Err.ensures.turns)
    (sends-not c.args.self.now.shown c.args.self.now.has_tried_send c.new-target.result c.args.address c.args.port c.args.reply.now
    (search rules) c.new-target.ensures.port (g.W.Wire.turns c.args.self.now.wire) (g.W.Wire.turns c.send.new.self) c.send.result (λ whole. search rules)
    c.send.ensures.turns)

pub returns-in-Ok-clause-turns : goal.returns-in-Ok-clause-turns
returns-in-Ok-clause-turns g c =
    sends-whole c.args.self.now.shown c.args.self.now.has_tried_send c.new-target.result c.args.address c.args.port c.args.reply.now
    (search rules) c.new-target.ensures.port (g.W.Wire.turns c.args.self.now.wire) (g.W.Wire.turns c.send.new.self) c.in-Ok.sent
    c.if-sent-reply.true c.in-Ok.ensures.turns
