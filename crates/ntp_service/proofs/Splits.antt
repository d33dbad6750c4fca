-- Customers split over services.
use Rattle.std.proofs.Common.{◌≡◌, ◌≢◌, ◌⊎◌, ℕ, Bool, true, false, None, List, [], ◌∷◌, filter, refl, sym, ap, ◌∙◌, arith, rules}
use Rattle.std.proofs.{lemmas.Bool.cases_Bool, lemmas.Option.none-some}
use Rattle.ntp_service.specs.declared.{address.Address.Address, refusal.Refusal.TheVariants.KeyTaken}
use Rattle.ntp_service.specs.{declared.refusal.Refusal.TheVariants.NoMemory, Registry.Registry, declared.event.Event.Event}
use Rattle.ntp_service.specs.{declared.outcome.Outcome.Outcome, Events.address_of, Events.names, Events.own, Model.answer_to}
use Rattle.ntp_service.specs.{Model.after, Model.life_after, Model.life_of, Headline.IsEnrolledWith, Headline.Tells}
use Rattle.ntp_service.specs.{Headline.is_struck, Split.is_command, Split.names_any, Split.comes_to, Split.HadMemory}
use Rattle.ntp_service.specs.Split.{NoneStruck}
use Rattle.ntp_service.proofs.{AddressLaws.same_or_other_address, Histories.events_of, Histories.other-address}
use Rattle.ntp_service.proofs.Parts.{IsTold, tell-alike}
use Rattle.ntp_reply.specs.Life.{Life, enrolment_in}
use Rattle.ntp_service.specs.declared.outcome.Outcome.TheVariants as outcome
use Rattle.ntp_service.proofs.Enrolments.{asks-nothing, enrolment-other, enrolment-alike, taken-over, command-alike}

-- an outcome that is not for want of memory is that a number is taken, or it is not struck out
abbrev Had : Outcome → Type 0
Had o = o ≢ outcome.Refused NoMemory

taken-or-plain : (o : Outcome) → Had o → (o ≡ outcome.Refused KeyTaken) ⊎ (is_struck o ≡ false)
taken-or-plain o e = grind arith

module _ {A : Type 0} where
  -- an event names its own address alone
  named-address : (a : Address) (e : Event A) → names a e ≡ true → a ≡ address_of e
  named-address a e named = search (rules, other-address, same_or_other_address)

  -- ---- a service that is told each command, and all else of the addresses that it has
  module _ (has : Address → Bool) where
    -- an address has one enrolment in both
    enrolments-alike : (a : Address) (one other : Life) (events : List (Event A)) → enrolment_in one ≡ enrolment_in other
        → enrolment_in (life_after one (own a (filter (comes_to has) events))) ≡ enrolment_in (life_after other (own a events))
    enrolments-alike a one other [] same = same
    enrolments-alike a one other (e ∷ events) same =
        let both = enrolments-alike a (after one e) (after other e) events (enrolment-alike one other e same) in
        let neither = enrolments-alike a one other events same in
        let here : is_command e ≡ false
        → enrolment_in (life_after one (own a (filter (comes_to has) events))) ≡ enrolment_in (life_after (after other e) (own a events)) =
        λ plain. enrolments-alike a one (after other e) events (same ∙ sym (enrolment-other other e plain)) in
        grind (arith, same, both, neither, here)

    lives-alike : (a : Address) (history : List (Event A))
        → enrolment_in (life_of (own a (filter (comes_to has) history))) ≡ enrolment_in (life_of (own a history))
    lives-alike a history = enrolments-alike a None None history refl

    -- one that it has, all its events
    own-there : (a : Address) → has a ≡ true → (events : List (Event A)) → own a (filter (comes_to has) events) ≡ own a events
    own-there a is [] = refl
    own-there a is (e ∷ events) =
        let comes : names a e ≡ true → comes_to has e ≡ true = λ named. grind (arith, ap has (named-address a e named), is) in
        grind (arith, own-there a is events, comes)

    -- by the model what comes is answered alike
    answers-alike : (history : List (Event A)) (e : Event A) → comes_to has e ≡ true
        → answer_to (life_of (own (address_of e) (filter (comes_to has) history))) e ≡ answer_to (life_of (own (address_of e) history)) e
    answers-alike history e f = grind (arith, command-alike, lives-alike, own-there)

    come-alike : (history : List (Event A)) (e : Event A) (o p : Outcome) → comes_to has e ≡ true
        → IsTold history e o → IsTold (filter (comes_to has) history) e p → Had o → Had p → p ≡ o
    come-alike history e o p comes here there had had_there = grind (arith, answers-alike, taken-over, lives-alike, taken-or-plain)

    away-unstruck : (history : List (Event A)) (e : Event A) (o : Outcome) → comes_to has e ≡ false → IsTold history e o → Had o
        → is_struck o ≡ false
    away-unstruck history e o away here had = grind (arith, none-some, asks-nothing, taken-or-plain)

    pub split-not-felt : (history : List (Event A)) (happened happened_there : List (Event A × Outcome)) (service service_there : Registry)
        → Tells history happened service → Tells (filter (comes_to has) history) happened_there service_there
        → HadMemory happened → HadMemory happened_there → events_of happened_there ≡ filter (comes_to has) (events_of happened)
        → happened_there ≡ filter (λ p. comes_to has p.0) happened
    split-not-felt = tell-alike (comes_to has) Had Had come-alike away-unstruck

  -- ---- a service that is told what names its own addresses, and nothing else
  module _ (has : Address → Bool) where
    -- an address that it has, with all its events
    own-has : (a : Address) → has a ≡ true → (events : List (Event A)) → own a (filter (names_any has) events) ≡ own a events
    own-has a is [] = refl
    own-has a is (e ∷ events) =
        let mine : names a e ≡ true → names_any has e ≡ true = λ named. sym (ap has (named-address a e named)) ∙ is in
        grind (arith, own-has a is events, mine)

    -- and one that it has not, with none
    own-has_not : (a : Address) → has a ≡ false → (events : List (Event A)) → own a (filter (names_any has) events) ≡ []
    own-has_not a is [] = refl
    own-has_not a is (e ∷ events) =
        let others : names a e ≡ true → names_any has e ≡ false = λ named. sym (ap has (named-address a e named)) ∙ is in
        grind (arith, own-has_not a is events, others)

    -- who is enrolled there is enrolled here
    enrolled-here : (a : Address) (history : List (Event A)) (number : ℕ) → IsEnrolledWith (filter (names_any has) history) a number
        → IsEnrolledWith history a number
    enrolled-here a history number enrolled = grind (arith, own-has, own-has_not, cases_Bool)

    mine-alike : (history : List (Event A)) (e : Event A) (o p : Outcome) → names_any has e ≡ true → IsTold history e o
        → IsTold (filter (names_any has) history) e p → is_struck o ≡ false → Had p → p ≡ o
    mine-alike history e o p is here there plain had = grind (arith, own-has, enrolled-here, taken-or-plain)

    pub split-commands-not-felt : (history : List (Event A)) (happened happened_there : List (Event A × Outcome)) (service service_there : Registry)
        → Tells history happened service → Tells (filter (names_any has) history) happened_there service_there
        → NoneStruck happened → HadMemory happened_there
        → events_of happened_there ≡ filter (names_any has) (events_of happened)
        → happened_there ≡ filter (λ p. names_any has p.0) happened
    split-commands-not-felt = tell-alike (names_any has) (λ o. is_struck o ≡ false) Had mine-alike (λ history e o away here plain. plain)
