use Rattle.std.proofs.Common.{rules, arith, ◌∙◌}
use Rattle.ntp_packet.proofs.PublicLaws.{IsFresh-fresh, fresh_from_IsFresh}
use Rattle.ntp_customer.specs.Exchanges.{all_stamps}
use Rattle.ntp_customer.proofs.NewStamps.{few-stamps, either-of_pieces}
use Rattle.ntp_customer.proofs.slots.Slots.new_receive.Goals as goal

pub returns-clause-value : goal.returns-clause-value
returns-clause-value g c =
    fresh_from_IsFresh _ _ _ (c.first_free.ensures (all_stamps c.args.self.now)
    (λ s r fits told. search rules ∙ either-of_pieces c.saved.result.0.now c.saved.result.1.now c.args.self.now s c.saved.ensures.pieces)
    (few-stamps c.args.self.now c.saved.ensures.saved))

pub returns-clause-free : goal.returns-clause-free
returns-clause-free g c =
    rw (returns-clause-value g c) (IsFresh-fresh c.args.stamp (all_stamps c.args.self.now)
    (omega (arith, few-stamps c.args.self.now c.saved.ensures.saved))).free
