use Rattle.std.proofs.Common.{refl, sym, subst}
use Rattle.std.specs.Prelude.{is_err}
use Rattle.ntp_port.specs.Port.{CountsReceive, Receives}
use Rattle.ntp_port.proofs.PublicLaws.{takes-turn}
use Rattle.ntp_server.proofs.Making.{Makes-turn}
use Rattle.ntp_server.proofs.server.Server.turn.Goals as goal

pub returns-clause-made : goal.returns-clause-made
returns-clause-made g c =
    let counts = subst (λ port. CountsReceive (g.P.Port.counts c.args.self.now.port) (g.P.Port.counts port) (is_err c.wait-received.result))
    (sym c.look.ensures.port) c.wait-received.ensures.counts in
    let received = subst (λ port. Receives g.P.Port.may_drop (g.P.Port.counts c.args.self.now.port).dropped (g.P.Port.counts port).dropped
    (g.P.Port.told c.args.self.now.port) (g.P.Port.told port) c.wait-received.result c.wait-received.new.datagram)
    (sym c.look.ensures.port) c.wait-received.ensures.turns in
    let taken = takes-turn _ _ _ _ _ _ _ _ _ _ _ _ _ counts _ received c.answer_received-outcome.ensures.idle
    c.answer_received-outcome.ensures.makes in
    Makes-turn _ _ _ _ _ g.Q.Reporter.shown _ _ _ _ _ _ _ _ _ _ _ refl refl c.wait-received.ensures.waits c.look.ensures.looks
    c.receipt_of-receipt.ensures c.look.ensures.reference c.in_force-reference.ensures c.look.ensures.port taken c.turn.ensures
    c.report.ensures.shown
