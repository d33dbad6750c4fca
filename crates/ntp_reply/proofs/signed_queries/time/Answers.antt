use Rattle.std.proofs.Common.{rules}
use Rattle.ntp_reply.proofs.KeptExchanges.{lent-recent, kept-after_time}
use Rattle.ntp_reply.proofs.signed_queries.time.Goals as goal

pub returns-clause-answer : goal.returns-clause-answer
returns-clause-answer g c = λ past kept.
    let recents = lent-recent past c.args.customer.now c.slots_mut.result.now kept c.requires c.slots_mut.ensures.value in
    rw (← recents) (search rules)

pub returns-clause-after : goal.returns-clause-after
returns-clause-after g c = λ past kept.
    kept-after_time past c.args.customer.now c.args.occasion.now c.args.request.now c.slots_mut.result.now c.exchange-exchanged.new.slots
    c.exchange-exchanged.result.stamps kept c.requires c.slots_mut.ensures.value c.exchange-exchanged.ensures.stamps
    c.exchange-exchanged.ensures.saved
