use Rattle.std.proofs.Common.{◌≡◌, Some, List, sym, ap, ◌∙◌}
use Rattle.std.specs.Prelude.{position, slice_get}
use Rattle.std.specs.Option.{option_copied_mut}
use Rattle.ntp_packet.specs.Fresh.{fresh}
use Rattle.ntp_customer.specs.declared.slot.Slot.{Slot}
use Rattle.ntp_customer.specs.Exchanges.{AreSaved, is_unused_at, receives, with_unused, with_departure}
use Rattle.ntp_customer.proofs.Changes.{written-at_place}
use Rattle.ntp_customer.proofs.Saved.{AreSaved-departed}
use Rattle.ntp_customer.proofs.slots.Slots.depart.Goals as goal

pub returns-clause-departed : goal.returns-clause-departed
unfolding with_departure
returns-clause-departed g c =
    let xs : List Slot = c.self.inside.exchanges.items in
    let at : position (is_unused_at c.args.receive) xs ≡ Some c.in-Some.departed = cc in
    let left : c.new_departure-transmit.result ≡ fresh c.args.moment.stamp (receives xs) = cc in
    let there : slice_get xs c.in-Some.departed ≡ Some c.unwrap.result.now = sym c.get_mut.follows ∙ ap option_copied_mut c.unwrap.ensures in
    written-at_place c.args.receive (λ x. record x { transmit = c.new_departure-transmit.result }) xs c.in-Some.departed c.unwrap.result.now
    c.self.invariant.1.distinct at there
    ∙ ap (λ t. with_unused xs c.args.receive (λ x. record x { transmit = t })) left
    ∙ ap (λ ys. with_departure ys c.args.receive c.args.moment) c.self.view_is

pub invariant_of-self : goal.invariant_of-self
invariant_of-self g c =
    let were : AreSaved c.args.self.now = rw (← c.self.view_is) c.self.invariant.1 in
    (c.self.invariant.0, rw (returns-clause-departed g c) (AreSaved-departed c.args.self.now c.args.receive c.args.moment were))

pub returns-clause-saved : goal.returns-clause-saved
returns-clause-saved g c = (invariant_of-self g c).1
