-- The events of one address.
use Rattle.std.specs.Prelude.{Bool, List, filter}
use Rattle.ntp_service.specs.{declared.address.Address.Address, Address.address_eq, Commands.address_named}
use Rattle.ntp_service.specs.declared.event.Event.{Event}
use Rattle.ntp_service.specs.declared.event.Event.TheVariants as event

-- the address that an event names
abbrev pub address_of : {A : Type 0} → Event A → Address
address_of (event.Datagram address receipt transmit reference octets) = address
address_of (event.Departed address receive m) = address
address_of (event.Command command) = address_named command

-- whether an event names an address
abbrev pub names : {A : Type 0} → Address → Event A → Bool
names address e = address_eq address (address_of e)

-- the events that name an address, in their order
abbrev pub own : {A : Type 0} → Address → List (Event A) → List (Event A)
own address history = filter (names address) history
