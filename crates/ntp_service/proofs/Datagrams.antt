-- One datagram, or one departure, by what the register has at its address.
use Rattle.std.proofs.Common.{◌≡◌, Bool, false, Some, None, option_map, List, sym, ap, ◌∙◌, arith}
use Rattle.std.specs.Bool.{OnFalse}
use Rattle.std.proofs.lemmas.Option.{none-some}
use Rattle.ntp_service.specs.declared.{address.Address.Address, event.Event.Event, outcome.Outcome.Outcome}
use Rattle.ntp_service.specs.{Events.address_of, Events.own, Registry.Registry, Registry.Agrees, Registry.customer_at}
use Rattle.ntp_service.specs.{Registry.with_customer, Model.life_of, Model.after, Model.answer_to, Model.departure_outcome}
use Rattle.ntp_service.specs.Headline.{StandsFor, TellsOne, IsTaken, is_struck, number_asked}
use Rattle.ntp_customer.specs.{Customer.CustomerState, Past.Past, Past.short}
use Rattle.ntp_service.proofs.Lookups.{customer_at-with_customer, customer_at-with_customer-other, with_customer-present}
use Rattle.ntp_reply.specs.Life.{Life}
use Rattle.ntp_service.proofs.Lives.{by_kept, never-enrolled}
use Rattle.ntp_service.proofs.Histories.{stands-step, stands-same, tells-one}

module _ {A : Type 0} (r : Registry) (history : List (Event A)) (e : Event A) (stands : StandsFor r history)
    (none : number_asked e ≡ None) (o : Outcome) (plain : is_struck o ≡ false) where
  abbrev life : Life
  life = life_of (own (address_of e) history)

  -- it asks for no number
  free : IsTaken history e → ⊥
  free h = none-some h.0 (sym none ∙ h.1.0)

  -- the register has nothing
  pub unregistered-tells : customer_at r (address_of e) ≡ None → o ≡ answer_to None e → after None e ≡ None → TellsOne history e o r
  unregistered-tells nothing is stays =
      let never = never-enrolled life (sym (stands.entries (address_of e)) ∙ nothing) in
      tells-one history e o r plain (is ∙ ap (λ l. answer_to l e) (sym never)) free
      (stands-same r history e stands (ap (λ l. after l e) never ∙ stays ∙ sym never))

  -- the register has a customer, who is told what the past says, and is then w
  pub customer-tells : (c w : CustomerState) → customer_at r (address_of e) ≡ Some c
      → ((past : Past) → short past ≡ c → o ≡ answer_to (Some past) e)
      → ((past : Past) → short past ≡ c → Some w ≡ option_map short (after (Some past) e))
      → Agrees (with_customer r (address_of e) w) → TellsOne history e o (with_customer r (address_of e) w)
  customer-tells c w there says goes_on agrees =
      let s = with_customer r (address_of e) w in
      let has = sym (stands.entries (address_of e)) ∙ there in
      tells-one history e o s plain (by_kept (λ l. o ≡ answer_to l e) c says life has) free
      (stands-step r s history e stands
      (customer_at-with_customer r (address_of e) w ∙ by_kept (λ l. Some w ≡ option_map short (after l e)) c goes_on life has)
      (customer_at-with_customer-other r (address_of e) w)
      agrees)

-- a departure is refused nothing
pub unstruck : (noted : Bool) → is_struck (departure_outcome noted) ≡ false
unstruck noted = grind arith

-- where a customer is left as it was, so is the register
pub unchanged-there : (noted : Bool) (r s : Registry) (address : Address) (c w : CustomerState) → s ≡ r → customer_at r address ≡ Some c
    → OnFalse noted (w ≡ c) → OnFalse noted (with_customer r address w ≡ s)
unchanged-there noted r s address c w e f g = grind (arith, with_customer-present)
