use Rattle.std.proofs.Common.{◌≡◌, ℕ, Bool, Option, Some, true, List, sym, ap, ◌∙◌}
use Rattle.std.specs.Prelude.{position, slice_get}
use Rattle.std.specs.Option.{option_copied_mut}
use Rattle.ntp_customer.specs.declared.slot.Slot.{Slot}
use Rattle.ntp_customer.specs.Exchanges.{AreSaved, is_unused_at, spent}
use Rattle.ntp_customer.proofs.Changes.{written-at_place}
use Rattle.ntp_customer.proofs.{Saved.AreSaved-spent}
use Rattle.ntp_customer.proofs.slots.Slots.spend_unused.Goals as goal

-- the place that is given is that of the first unused exchange of what is seen as the saved ones
at-place : (p : Slot → Bool) {xs seen : List Slot} {given : Option ℕ} {i : ℕ} → xs ≡ seen → given ≡ position p seen → given ≡ Some i
    → position p xs ≡ Some i
at-place p view place was = ap (position p) view ∙ sym place ∙ was

pub returns-clause-spent : goal.returns-clause-spent
unfolding spent
returns-clause-spent g c =
    let xs : List Slot = c.self.inside.exchanges.items in
    let at = at-place (is_unused_at c.args.receive) c.self.view_is c.unused_place.ensures c.in_ok-place.was in
    let there : slice_get xs c.in_ok-place.place ≡ Some c.unwrap-exchange.result.now =
    sym c.get_mut.follows ∙ ap option_copied_mut c.unwrap-exchange.ensures in
    written-at_place c.args.receive (λ x. record x { used = true }) xs c.in_ok-place.place c.unwrap-exchange.result.now
    c.self.invariant.1.distinct at there
    ∙ ap (λ ys. spent ys c.args.receive) c.self.view_is

pub invariant_of-self : goal.invariant_of-self
invariant_of-self g c =
    let were : AreSaved c.args.self.now = rw (← c.self.view_is) c.self.invariant.1 in
    (c.self.invariant.0, rw (returns-clause-spent g c) (AreSaved-spent c.args.self.now c.args.receive were))

pub returns-clause-saved : goal.returns-clause-saved
returns-clause-saved g c = (invariant_of-self g c).1
