-- Customers split over services by their addresses.
use Rattle.std.specs.Prelude.{◌≡◌, ◌≢◌, ◌||◌, Bool, true, false, List, All}
use Rattle.ntp_service.specs.{declared.address.Address.Address, declared.refusal.Refusal.TheVariants.NoMemory}
use Rattle.ntp_service.specs.{declared.event.Event.Event, declared.outcome.Outcome.Outcome, Events.address_of, Headline.is_struck}
use Rattle.ntp_service.specs.declared.event.Event.TheVariants as event
use Rattle.ntp_service.specs.declared.outcome.Outcome.TheVariants as outcome

-- whether an event is a command
abbrev pub is_command : {A : Type 0} → Event A → Bool
is_command (event.Command command) = true
is_command other = false

-- whether an event names one of the addresses that a service has, by the test that says which it has
abbrev pub names_any : {A : Type 0} → (Address → Bool) → Event A → Bool
names_any has e = has (address_of e)

-- whether an event comes to that service, where each command comes to every service
abbrev pub comes_to : {A : Type 0} → (Address → Bool) → Event A → Bool
comes_to has e = is_command e || names_any has e

-- no command was refused for want of memory
abbrev pub HadMemory : {A : Type 0} → List (Event A × Outcome) → Type 0
HadMemory happened = All (λ p. p.1 ≢ outcome.Refused NoMemory) happened

-- no command was struck out
abbrev pub NoneStruck : {A : Type 0} → List (Event A × Outcome) → Type 0
NoneStruck happened = All (λ p. is_struck p.1 ≡ false) happened
