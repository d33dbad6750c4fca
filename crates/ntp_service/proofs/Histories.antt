-- What one more event does to a history.
use Rattle.std.proofs.Common.{◌≡◌, ◌≢◌, true, false, option_map, List, [], ◌∷◌, ◌++◌, map, sym, ap, ◌∙◌, subst, append-nil, ⊎_elim, arith}
use Rattle.std.proofs.{lemmas.Grind.common_steps, lemmas.List.Elements.filter-append}
use Rattle.std.specs.{Ordering.is_eq, declared.cmp.Ordering.Ordering, declared.cmp.Ordering.TheVariants.Equal, FinMap.get-empty}
use Rattle.ntp_service.specs.{declared.address.Address.Address, Address.address_eq, Address.address_cmp}
use Rattle.ntp_service.specs.{declared.event.Event.Event, declared.outcome.Outcome.Outcome, Registry.Registry, Registry.Agrees}
use Rattle.ntp_service.specs.{Registry.customer_at, Registry.empty_registry, Events.address_of, Events.names, Events.own}
use Rattle.ntp_service.specs.{Model.answer_to, Model.after, Model.life_after, Model.life_of, Headline.StandsFor}
use Rattle.ntp_service.specs.Headline.{TellsOne, IsTaken, is_struck}
use Rattle.ntp_service.proofs.AddressLaws.{address_eq_equiv, addresses, same_or_other_address}
use Rattle.ntp_service.proofs.Agreement.{agrees-empty}
use Rattle.ntp_customer.specs.Past.{short}
use Rattle.ntp_reply.specs.Life.{Life}

tie : (o : Ordering) → is_eq o ≡ true → o ≡ Equal
tie o e = grind arith

-- a test of addresses says yes where they are one, and no where they differ
pub same-address : (a b : Address) → address_eq a b ≡ true → a ≡ b
same-address a b equal = addresses.same a b (tie (address_cmp a b) (sym (addresses.ties a b) ∙ equal))

pub other-address : (a b : Address) → a ≢ b → address_eq a b ≡ false
other-address a b ne = grind (arith, same-address)

module _ {A : Type 0} where
  -- the events of what happened
  abbrev pub events_of : List (Event A × Outcome) → List (Event A)
  events_of happened = map (λ p. p.0) happened

  pub own-append : (a : Address) (xs ys : List (Event A)) → own a (xs ++ ys) ≡ own a xs ++ own a ys
  own-append a xs ys = filter-append (names a) xs ys

  pub life_after-append : (life : Life) (xs ys : List (Event A)) → life_after life (xs ++ ys) ≡ life_after (life_after life xs) ys
  life_after-append life xs ys = grind (arith, common_steps)

  -- the life of the address that the next event names
  pub life-here : (history : List (Event A)) (e : Event A)
      → life_of (own (address_of e) (history ++ e ∷ [])) ≡ after (life_of (own (address_of e) history)) e
  life-here history e = grind (arith, own-append, address_eq_equiv, life_after-append)

  -- the life of any other
  pub life-there : (a : Address) (history : List (Event A)) (e : Event A) → a ≢ address_of e → own a (history ++ e ∷ []) ≡ own a history
  life-there a history e ne = grind (arith, own-append, other-address, append-nil)

  -- a service that did with the event's address what the event does, and with no other address anything
  pub stands-step : (r s : Registry) (history : List (Event A)) (e : Event A) → StandsFor r history
      → customer_at s (address_of e) ≡ option_map short (after (life_of (own (address_of e) history)) e)
      → ((a : Address) → a ≢ address_of e → customer_at s a ≡ customer_at r a) → Agrees s → StandsFor s (history ++ e ∷ [])
  stands-step r s history e stands here there agrees = record {
    entries = λ a. ⊎_elim
        (λ same. subst (λ b. customer_at s b ≡ option_map short (life_of (own b (history ++ e ∷ [])))) (sym same) (here
        ∙ ap (option_map short) (sym (life-here history e))))
        (λ other. there a other ∙ stands.entries a ∙ ap (λ h. option_map short (life_of h)) (sym (life-there a history e other)))
        (same_or_other_address a (address_of e));
    agrees = agrees;
  }

  -- an event that changes no life
  pub stands-same : (r : Registry) (history : List (Event A)) (e : Event A) → StandsFor r history
      → after (life_of (own (address_of e) history)) e ≡ life_of (own (address_of e) history) → StandsFor r (history ++ e ∷ [])
  stands-same r history e stands same = grind (arith, stands-step)

  -- an outcome that is not struck out is that of the model, and then the service stands for one event more
  pub tells-one : (history : List (Event A)) (e : Event A) (o : Outcome) (s : Registry) → is_struck o ≡ false
      → o ≡ answer_to (life_of (own (address_of e) history)) e → (IsTaken history e → ⊥) → StandsFor s (history ++ e ∷ [])
      → TellsOne history e o s
  tells-one history e o s plain is free stands = grind arith

-- a service with no customers
pub stands-empty : {A : Type 0} → StandsFor {A = A} empty_registry []
stands-empty = record { entries = λ a. get-empty address_cmp a; agrees = agrees-empty }
