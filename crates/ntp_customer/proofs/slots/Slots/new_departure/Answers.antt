use Rattle.std.proofs.Common.{rules, arith, ◌∙◌}
use Rattle.ntp_packet.proofs.PublicLaws.{fresh_from_IsFresh}
use Rattle.ntp_customer.specs.Exchanges.{receives}
use Rattle.ntp_customer.proofs.NewStamps.{few-receives, received-of_pieces}
use Rattle.ntp_customer.proofs.slots.Slots.new_departure.Goals as goal

pub returns : goal.returns
returns g c =
    fresh_from_IsFresh _ _ _ (c.first_free.ensures (receives c.args.self.now)
    (λ s r fits told. search rules ∙ received-of_pieces c.saved.result.0.now c.saved.result.1.now c.args.self.now s c.saved.ensures.pieces)
    (omega (arith, few-receives c.args.self.now c.saved.ensures.saved)))
