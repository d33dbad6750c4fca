-- Customers that are wanted, and the commands that lead to them.
use Rattle.std.specs.Prelude.{◌≡◌, ◌≢◌, ℕ, Bool, true, false, Option, None, Some, option_map, option_to_list, IfSome, IsSome, List, [], ◌∷◌, All, map, find, Contains, AllPairs}
use Rattle.std.specs.{declared.alloc.Global.Global, Option.option_map_or, Int.NonZero.non_zero_u16_get}
use Rattle.ntp_customer.specs.{declared.numbered_key.NumberedKey.NumberedKey, Customer.Enrolment, Customer.numbers_in}
use Rattle.ntp_service.specs.{declared.address.Address.Address, Address.address_eq, Commands.address_named, Commands.numbered}
use Rattle.ntp_service.specs.{declared.command.Command.Command, declared.event.Event.Event, Headline.StandsFor, Headline.Tells}
use Rattle.ntp_service.specs.Registry.{Registry, customer_at, terms_at}
use Rattle.ntp_service.specs.declared.command.Command.TheVariants as command
use Rattle.ntp_service.specs.declared.event.Event.TheVariants as event
use Rattle.ntp_service.specs.declared.outcome.Outcome.TheVariants as outcome
use Rattle.ntp_clerk.specs.{declared.wanted.GivenKey.GivenKey, declared.wanted.Terms.Terms, declared.wanted.Wanted.Wanted}

-- a key with its number
abbrev pub key_given : GivenKey → NumberedKey
key_given given = numbered given.number given.key

-- the enrolment with these terms: its keys, the older one first, and its budget
abbrev pub enrolment_with : Terms → Enrolment
enrolment_with terms = record {
  keys = key_given terms.older ∷ option_to_list (option_map key_given terms.newer);
  budget = non_zero_u16_get terms.budget;
}

-- the enrolment that customers have at an address, if one of them has this address
abbrev pub enrolment_among : List Wanted → Address → Option Enrolment
enrolment_among customers address = option_map (λ w. enrolment_with w.terms) (find (λ w. address_eq address w.address) customers)

-- a service has exactly these customers: whoever is among them is enrolled with his keys and his budget, and nobody else is
abbrev pub HasExactly : Registry → List Wanted → Type 0
HasExactly service customers = (address : Address) → terms_at service address ≡ enrolment_among customers address

-- the two keys of terms, if they are two, have two numbers; and terms have a number
abbrev pub AreTwo : Terms → Type 0
AreTwo terms = IfSome terms.newer (λ newer. non_zero_u16_get terms.older.number ≢ non_zero_u16_get newer.number)

abbrev pub HasNumber : Terms → ℕ → Type 0
HasNumber terms number = Contains (numbers_in (enrolment_with terms)) number

-- an enrolment, where there is one, has a number
abbrev pub Holds : Option Enrolment → ℕ → Type 0
Holds held number = Contains (option_map_or numbers_in held []) number

-- customers are apart: no two have one address, and no two keys one number, of one customer or of two
pub record AreApart (customers : List Wanted) : Type 0 where
  pub addresses : AllPairs (λ one other. one.address ≢ other.address) customers
  pub numbers : AllPairs (λ one other. (number : ℕ) → HasNumber one.terms number → HasNumber other.terms number → ⊥) customers
  pub two : All (λ w. AreTwo w.terms) customers

-- a command ends what its address had: by a revocation, or by an enrolment, which begins anew
abbrev pub ends : Command → Bool
ends (command.Enrol address number key budget) = true
ends (command.Revoke address) = true
ends other = false

-- no key of an enrolment that an address has is in the one that it is to have
abbrev pub KeepsNoKey : Option Enrolment → Option Enrolment → Type 0
KeepsNoKey (Some e) (Some f) = (key : NumberedKey) → Contains e.keys key → Contains f.keys key → ⊥
KeepsNoKey one other = Unit {0}

-- a command for an address is needed: what the address has and what it is to have differ, and its life ends only where it keeps no key
pub record IsNeededAt (address : Address) (held wanted : Option Enrolment) (c : Command) : Type 0 where
  pub named : address_named c ≡ address
  pub differs : held ≢ wanted
  pub ends_none : ends c ≡ true → KeepsNoKey held wanted

abbrev pub IsNeeded : Registry → List Wanted → Command → Type 0
IsNeeded service wanted c = IsNeededAt (address_named c) (terms_at service (address_named c)) (enrolment_among wanted (address_named c)) c

-- a service that is given commands does each, and comes to another: this it tells, whatever history it stood for
abbrev pub LeadsTo : Registry → List Command → Registry → Type 0
LeadsTo service commands new =
    (history : List (Event Global)) → StandsFor service history → Tells history (map (λ c. (event.Command c, outcome.Done)) commands) new

-- who was ever enrolled is still known: as a customer, or as one that is revoked
abbrev pub NobodyIsForgotten : Registry → Registry → Type 0
NobodyIsForgotten old new = (address : Address) → IsSome (customer_at old address) → IsSome (customer_at new address)

-- the new address has what the old one had, which has nothing; all others have what they had, and nobody is forgotten
pub record HasMoved (old : Registry) (from to : Address) (new : Registry) : Type 0 where
  pub there : terms_at new to ≡ terms_at old from
  pub here : terms_at new from ≡ None
  pub known : NobodyIsForgotten old new
  pub others : (q : Address) → q ≢ from → q ≢ to → terms_at new q ≡ terms_at old q

-- commands that are carried out from nothing leave the customers of a service, and these addresses are known
pub record Makes (commands : List Command) (addresses : List Address) (service : Registry) : Type 0 where
  pub made : Registry
  pub leads : Tells {A = Global} [] (map (λ c. (event.Command c, outcome.Done)) commands) made
  pub same : (address : Address) → terms_at made address ≡ terms_at service address
  pub known : All (λ address. IsSome (customer_at made address)) addresses
