use Rattle.std.proofs.Common.{rules, refl}
use Rattle.ntp_port.proofs.OneTurn.{makes-no-reply, makes-not-sent, makes-sent, makes-departed}
use Rattle.ntp_port.proofs.serving.send_reply.Goals as goal

pub returns-in_default : goal.returns-in_default
returns-in_default g c t from transmit i e h = makes-no-reply from transmit _ _ t _ _ _ _ (search rules) refl i

pub returns-then-is_err : goal.returns-then-is_err
returns-then-is_err g c t from transmit i e h =
    makes-not-sent from transmit _ _ (search rules) _ t _ _ _ _ _ c.send-sent.result _ _ c.octets.ensures.most e h i c.send-sent.ensures.turns
    c.send-sent.ensures.counts (search rules)

pub returns-in_default-saved_in : goal.returns-in_default-saved_in
returns-in_default-saved_in g c t from transmit i e h =
    makes-sent from transmit _ _ (search rules) _ t _ _ _ _ _ c.send-sent.result _ _ c.octets.ensures.most e h i c.send-sent.ensures.turns
    c.send-sent.ensures.counts (search rules) (search rules)

pub returns-then-departed : goal.returns-then-departed
returns-then-departed g c t from transmit i e h =
    makes-departed from transmit _ _ (search rules) _ t _ _ _ _ _ c.send-sent.result _ _ c.octets.ensures.most e h i c.send-sent.ensures.turns
    c.send-sent.ensures.counts _ _ _ _ c.now-departure.result _ _ (search rules) (search rules) c.now-departure.ensures.counts
    c.now-departure.ensures.turns c.if-departed.true c.departed.ensures.tells

pub returns-else-departed : goal.returns-else-departed
returns-else-departed g c t from transmit i e h =
    makes-departed from transmit _ _ (search rules) _ t _ _ _ _ _ c.send-sent.result _ _ c.octets.ensures.most e h i c.send-sent.ensures.turns
    c.send-sent.ensures.counts _ _ _ _ c.now-departure.result _ _ (search rules) (search rules) c.now-departure.ensures.counts
    c.now-departure.ensures.turns c.if-departed.false c.departed.ensures.tells
