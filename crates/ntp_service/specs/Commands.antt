-- What a command names, why it is refused, and what it makes of a customer.
use Rattle.std.specs.Prelude.{ℕ, Bool, true, false, nat_lt, length, if◌then◌else◌, Option, Some, None, is_some, option_map}
use Rattle.std.specs.{Int.NonZero.non_zero_u16_get, declared.num.NonZeroU16.NonZeroU16}
use Rattle.ntp_mac.specs.Key.{SymmetricKey}
use Rattle.ntp_customer.specs.declared.numbered_key.NumberedKey.{NumberedKey}
use Rattle.ntp_customer.specs.Customer.{Enrolment, CustomerOf, most_keys, enrolment_of, held_in, customer_from, revoked, rebudgeted, rolled_over, retired}
use Rattle.ntp_service.specs.{declared.address.Address.Address, declared.command.Command.Command}
use Rattle.ntp_service.specs.declared.refusal.Refusal.{Refusal}
use Rattle.ntp_service.specs.declared.command.Command.TheVariants.{Enrol, Revoke, Budget, Rollover, Retire}
use Rattle.ntp_service.specs.declared.refusal.Refusal.TheVariants.{AlreadyEnrolled, KeyTaken, NoMemory, NotEnrolled, SameNumber, RoomFull, OnlyKey, NotHeld}

-- the address that a command names
abbrev pub address_named : Command → Address
address_named (Enrol address number key budget) = address
address_named (Revoke address) = address
address_named (Budget address budget) = address
address_named (Rollover address number key) = address
address_named (Retire address number) = address

-- the key number that a command names, if it names one
abbrev pub number_named : Command → Option NonZeroU16
number_named (Enrol address number key budget) = Some number
number_named (Rollover address number key) = Some number
number_named (Retire address number) = Some number
number_named other = None

-- the key number that a command asks for, if it asks for one
abbrev pub number_wanted : Command → Option ℕ
number_wanted (Enrol address number key budget) = Some (non_zero_u16_get number)
number_wanted (Rollover address number key) = Some (non_zero_u16_get number)
number_wanted other = None

-- a key with a number that is not 0
abbrev pub numbered : NonZeroU16 → SymmetricKey → NumberedKey
numbered number key = record { number = non_zero_u16_get number; key = key }

-- why a rollover of an enrolment e to this number is refused, if it is, whoever else holds the number
abbrev pub rollover_refusal : Enrolment → ℕ → Option Refusal
rollover_refusal e number =
    if is_some (held_in e number) then Some SameNumber else if nat_lt (length e.keys) most_keys then None else Some RoomFull

-- why the key of this number is not taken from an enrolment e, if it is not: e does not hold it, or has no other
abbrev pub retire_refusal : Enrolment → ℕ → Option Refusal
retire_refusal e number = if is_some (held_in e number) then (if nat_lt 1 (length e.keys) then None else Some OnlyKey) else Some NotHeld

-- why a command is refused, if it is, by the enrolment that its address has, if it has one
abbrev pub refusal_of : Option Enrolment → Command → Option Refusal
refusal_of None (Enrol address number key budget) = None
refusal_of None other = Some NotEnrolled
refusal_of (Some e) (Enrol address number key budget) = Some AlreadyEnrolled
refusal_of (Some e) (Rollover address number key) = rollover_refusal e (non_zero_u16_get number)
refusal_of (Some e) (Retire address number) = retire_refusal e (non_zero_u16_get number)
refusal_of (Some e) other = None

-- the refusals that a neighbour, or want of memory, can cause
abbrev pub is_foreign : Refusal → Bool
is_foreign KeyTaken = true
is_foreign NoMemory = true
is_foreign other = false

-- the customer at the address of a command once it is done: an enrolment makes a new one, whose counts are `nothing`
abbrev pub once_done : {C : Type 0} → C → Option (CustomerOf C) → Command → Option (CustomerOf C)
once_done nothing customer (Enrol address number key budget) =
    Some (customer_from nothing (enrolment_of (numbered number key) (non_zero_u16_get budget)))
once_done nothing customer (Revoke address) = option_map revoked customer
once_done nothing customer (Budget address budget) = option_map (λ c. rebudgeted c (non_zero_u16_get budget)) customer
once_done nothing customer (Rollover address number key) = option_map (λ c. rolled_over c (numbered number key)) customer
once_done nothing customer (Retire address number) = option_map (λ c. retired c (non_zero_u16_get number)) customer
