use Rattle.ntp_customer.proofs.PublicLaws.{all_stamps-spent, receives-spent}
use Rattle.ntp_reply.proofs.exchanging.use_match.Goals as goal

pub returns-clause-stamps : goal.returns-clause-stamps
returns-clause-stamps g c =
    rw c.spend_unused.ensures.spent (all_stamps-spent c.args.slots.now c.origin.result, receives-spent c.args.slots.now c.origin.result)
