use Rattle.std.proofs.Common.{rules, refl, ap}
use Rattle.ntp_port.specs.Port.{ReceiveTells}
use Rattle.ntp_port.proofs.Answering.{nothing-came, comes, answered}
use Rattle.ntp_port.proofs.serving.answer_received.Goals as goal

pub returns-in_default-clause-makes : goal.returns-in_default-clause-makes
returns-in_default-clause-makes g c t h = rw c.in_default.is (nothing-came _ _ t _ _ _ _ _ _ refl (rw c.in_default.is at h))

pub returns-clause-makes : goal.returns-clause-makes
returns-clause-makes g c t h =
    let r : ReceiveTells t _ _ c.args.datagram.now = rw c.in-Ok.is at h in
    let k = comes c.in-Ok.arrival c.args.datagram.now c.now-transmit.result (search rules) c.told-datagram t _ _ r
    c.now-transmit.ensures.turns in
    rw c.in-Ok.is (answered _ _ c.in-Ok.arrival c.args.datagram.now c.now-transmit.result t _ _ _ _ _ _ _ _ _ _ k c.now-transmit.ensures.counts
    (λ history stands. c.datagram-answer.ensures.tells history stands)
    (c.send_reply-sending.ensures t k.from c.now-transmit.result k.in_turn (ap (λ z. z.address) k.arrival) (ap (λ z. z.port) k.arrival)))
