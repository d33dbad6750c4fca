-- What a service is, and what it tells each address.
use Rattle.std.specs.Prelude.{◌≡◌, ◌≢◌, ◌↔◌, ℕ, Contains, Option, Some, None, option_map, Bool, false, not, ◌&&◌, if◌then◌else◌, Result, Ok, Err, List, [], ◌∷◌, ◌++◌, map, filter}
use Rattle.std.specs.Option.{option_map_or}
use Rattle.ntp_service.specs.{declared.address.Address.Address, declared.refusal.Refusal.Refusal}
use Rattle.ntp_service.specs.declared.refusal.Refusal.TheVariants.{KeyTaken, NoMemory}
use Rattle.ntp_service.specs.{Commands.number_wanted, Commands.is_foreign, declared.event.Event.Event}
use Rattle.ntp_service.specs.declared.outcome.Outcome.{Outcome}
use Rattle.ntp_service.specs.Registry.{Registry, Agrees, customer_at}
use Rattle.ntp_customer.specs.{Customer.numbers_in, Past.short}
use Rattle.ntp_reply.specs.Life.{enrolment_in}
use Rattle.ntp_service.specs.declared.event.Event.TheVariants as event
use Rattle.ntp_service.specs.declared.outcome.Outcome.TheVariants as outcome
use Rattle.ntp_service.specs.Events.{address_of, names, own}
use Rattle.ntp_service.specs.Model.{life_of, answer_to, FollowsModel}

-- a service stands for a history: of each address it has what is kept of the life that the address's own events leave, and an
-- address holds a number exactly where it is enrolled with it
pub record StandsFor {A : Type 0} (service : Registry) (history : List (Event A)) : Type 0 where
  pub entries : (address : Address) → customer_at service address ≡ option_map short (life_of (own address history))
  pub agrees : Agrees service

-- whether a command with this outcome is struck out: it was refused for want of memory, or for a key number that another address
-- holds; no datagram has such an outcome
abbrev pub is_struck : Outcome → Bool
is_struck (outcome.Refused refusal) = is_foreign refusal
is_struck other = false

-- the outcome of a command
abbrev pub command_outcome : Result (Unit {0}) Refusal → Outcome
command_outcome (Ok done) = outcome.Done
command_outcome (Err refusal) = outcome.Refused refusal

-- of events with their outcomes, the events without those that are struck out
abbrev pub not_struck : {A : Type 0} → List (Event A × Outcome) → List (Event A)
not_struck happened = map (λ p. p.0) (filter (λ p. not (is_struck p.1)) happened)

-- what happened to an address: the events that name it with their outcomes, without those that are struck out
abbrev pub happened_to : {A : Type 0} → Address → List (Event A × Outcome) → List (Event A × Outcome)
happened_to address happened = filter (λ p. not (is_struck p.1) && names address p.0) happened

-- after a history, an address is enrolled with a number
abbrev pub IsEnrolledWith : {A : Type 0} → List (Event A) → Address → ℕ → Type 0
IsEnrolledWith history address number = Contains (option_map_or numbers_in (enrolment_in (life_of (own address history))) []) number

-- the key number that an event asks for, if it is a command that asks for one
abbrev pub number_asked : {A : Type 0} → Event A → Option ℕ
number_asked (event.Command command) = number_wanted command
number_asked other = None

-- after a history, an event asks for this number, and by the model of its own address it would be done
abbrev pub AsksFor : {A : Type 0} → List (Event A) → Event A → ℕ → Type 0
AsksFor history e number = (number_asked e ≡ Some number) × (answer_to (life_of (own (address_of e) history)) e ≡ outcome.Done)

-- an event asks for a number with which another address is enrolled
abbrev pub IsTaken : {A : Type 0} → List (Event A) → Event A → Type 0
IsTaken history e =
    (number : ℕ) × AsksFor history e number × (other : Address) × (other ≢ address_of e) × IsEnrolledWith history other number

-- after a history, each of the two refusals that strike a command out has its cause
pub record HasCause {A : Type 0} (history : List (Event A)) (e : Event A) (o : Outcome) : Type 0 where
  -- KeyTaken exactly where another address is enrolled with the number that is asked for
  pub taken : (o ≡ outcome.Refused KeyTaken) ↔ IsTaken history e
  -- NoMemory of a command that asks for a number, and only where nothing else refuses
  pub memory : o ≡ outcome.Refused NoMemory → (number : ℕ) × AsksFor history e number

-- one event, after a history: unless it is struck out, its outcome is the answer of the model to the address's own events, and the
-- service then stands for one event more
pub record TellsOne {A : Type 0} (history : List (Event A)) (e : Event A) (o : Outcome) (service : Registry) : Type 0 where
  pub as_model : is_struck o ≡ false → o ≡ answer_to (life_of (own (address_of e) history)) e
  pub cause : HasCause history e o
  pub stands : StandsFor service (if is_struck o then history else history ++ e ∷ [])

-- the headline: what happened after a history to each address follows the model of one customer, by the address's own events alone; what
-- is struck out has its cause, after the kept events before it; and the service then stands for the history and the kept events
pub record Tells {A : Type 0} (history : List (Event A)) (happened : List (Event A × Outcome)) (service : Registry) : Type 0 where
  pub told : (address : Address) → FollowsModel (life_of (own address history)) (happened_to address happened)
  pub causes : (before behind : List (Event A × Outcome)) (e : Event A) (o : Outcome) → happened ≡ before ++ (e, o) ∷ behind
      → HasCause (history ++ not_struck before) e o
  pub stands : StandsFor service (history ++ not_struck happened)
