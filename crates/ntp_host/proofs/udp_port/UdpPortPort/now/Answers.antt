use Rattle.std.proofs.Common.{ap, ◌∙◌}
use Rattle.std.specs.Option.{option_flatten}
use Rattle.ntp_host.specs.Wire.{middle}
use Rattle.ntp_host.proofs.Wires.{shows, shown-before}
use Rattle.ntp_host.proofs.udp_port.UdpPortPort.now.Goals as goal

pub returns-clause-turns : goal.returns-clause-turns
returns-clause-turns g c =
    let r = c.now-reading.result in
    shows c.args.self.now.shown c.args.self.now.has_tried_send _ _ r c.middle.result (c.middle.ensures
    ∙ ap (λ b. middle b r) (c.flatten-before.ensures ∙ ap option_flatten c.then_some.ensures)
    ∙ shown-before c.args.self.now.shown c.args.self.now.has_tried_send r) c.now-reading.ensures.turns
