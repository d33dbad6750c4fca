use Rattle.std.proofs.Common.{rules, arith, ◌≡◌, ◌||◌, ◌==◌, ◌++◌, ◌∷◌, [], ap, ◌∙◌}
use Rattle.std.specs.List.{list_any}
use Rattle.std.proofs.lemmas.List.{length-append}
use Rattle.ntp_packet.proofs.PublicLaws.{IsFresh-fresh, fresh_from_IsFresh}
use Rattle.ntp_customer.specs.Exchanges.{receives, is_received_at}
use Rattle.ntp_customer.proofs.NewStamps.{few-receives, received-of_pieces, received-or_last}
use Rattle.ntp_customer.proofs.slots.Slots.new_transmit.Goals as goal

pub returns-clause-value : goal.returns-clause-value
returns-clause-value g c =
    fresh_from_IsFresh _ _ _ (c.first_free.ensures (receives c.args.self.now ++ c.args.receive ∷ [])
    (λ s r fits told.
    let tells : r ≡ ((list_any (is_received_at s) c.saved.result.0.now || list_any (is_received_at s) c.saved.result.1.now) || (c.args.receive.0 == s.0)) = search rules in
    tells
    ∙ ap (λ b. b || (c.args.receive.0 == s.0)) (received-of_pieces c.saved.result.0.now c.saved.result.1.now c.args.self.now s c.saved.ensures.pieces)
    ∙ received-or_last (receives c.args.self.now) c.args.receive s)
    (omega (arith, few-receives c.args.self.now c.saved.ensures.saved, length-append (receives c.args.self.now) (c.args.receive ∷ []))))

pub returns-clause-free : goal.returns-clause-free
returns-clause-free g c =
    rw (returns-clause-value g c) (IsFresh-fresh c.args.stamp (receives c.args.self.now ++ c.args.receive ∷ [])
    (omega (arith, few-receives c.args.self.now c.saved.ensures.saved, length-append (receives c.args.self.now) (c.args.receive ∷ [])))).free
