-- A register, as contracts see it: two finite maps.
use Rattle.std.specs.Prelude.{◌≡◌, ℕ, Bool, false, Option, Some, None, IsSome, option_and_then, Result, Err, OnOk, OnErr, IfErr, List, [], fold, Contains}
use Rattle.std.specs.{Option.option_map_or, Int.NonZero.non_zero_u16_get, Ordering.nat_cmp}
use Rattle.std.specs.FinMap as map
use Rattle.ntp_service.specs.{declared.address.Address.Address, Address.address_cmp, declared.command.Command.Command}
use Rattle.ntp_service.specs.declared.refusal.Refusal.{Refusal}
use Rattle.ntp_service.specs.declared.refusal.Refusal.TheVariants.{KeyTaken, NoMemory}
use Rattle.ntp_service.specs.declared.command.Command.TheVariants.{Enrol, Revoke, Rollover, Retire}
use Rattle.ntp_service.specs.Commands.{address_named, number_wanted, refusal_of, once_done}
use Rattle.ntp_customer.specs.Tally.{tally}
use Rattle.ntp_customer.specs.Customer.{Enrolment, CustomerState, enrolment_at, is_enrolled, numbers_of}

-- the customers by address, and the holder of each key number that is held
pub record Registry : Type 0 where
  pub customers : map.FinMap address_cmp CustomerState
  pub holders : map.FinMap nat_cmp Address

-- nobody was ever enrolled, and no number is held
abbrev pub empty_registry : Registry
empty_registry = record { customers = map.empty; holders = map.empty }

-- the customer at an address, if it was ever enrolled
abbrev pub customer_at : Registry → Address → Option CustomerState
customer_at r address = map.get r.customers address

-- the holder of a key number, if it is held
abbrev pub holder_of : Registry → ℕ → Option Address
holder_of r number = map.get r.holders number

-- the terms with which an address is enrolled now, if it is
abbrev pub terms_at : Registry → Address → Option Enrolment
terms_at r address = option_map_or enrolment_at (customer_at r address) None

-- whether an address is enrolled now
abbrev pub is_enrolled_at : Registry → Address → Bool
is_enrolled_at r address = option_map_or is_enrolled (customer_at r address) false

-- the key numbers with which an address is enrolled now
abbrev pub numbers_at : Registry → Address → List ℕ
numbers_at r address = option_map_or numbers_of (customer_at r address) []

-- a customer is enrolled with a number exactly where that number's holder is its address
pub record Agrees (r : Registry) : Type 0 where
  pub held : (address : Address) (number : ℕ) → Contains (numbers_at r address) number → holder_of r number ≡ Some address
  pub enrolled : (address : Address) (number : ℕ) → holder_of r number ≡ Some address → Contains (numbers_at r address) number

-- with c as the customer at the address, and all else as it was
abbrev pub with_customer : Registry → Address → CustomerState → Registry
with_customer r address c = record r { customers = map.insert r.customers address c }

-- with the address as the holder of the number, and all else as it was
abbrev pub with_holder : Registry → ℕ → Address → Registry
with_holder r number address = record r { holders = map.insert r.holders number address }

-- with the number free, and all else as it was
abbrev pub without_holder : Registry → ℕ → Registry
without_holder r number = record r { holders = map.remove r.holders number }

-- with these numbers free, and all else as it was
abbrev pub without_holders : Registry → List ℕ → Registry
without_holders r numbers = record r { holders = fold map.remove r.holders numbers }

-- the holders of numbers after a command that is done: its address holds the number that it asks for, and numbers given up are free
abbrev pub holders_after : Registry → Command → map.FinMap nat_cmp Address
holders_after r (Enrol address number key budget) = map.insert r.holders (non_zero_u16_get number) address
holders_after r (Revoke address) = fold map.remove r.holders (numbers_at r address)
holders_after r (Rollover address number key) = map.insert r.holders (non_zero_u16_get number) address
holders_after r (Retire address number) = map.remove r.holders (non_zero_u16_get number)
holders_after r other = r.holders

-- after a command that is done: its address's customer and the holders are changed, and nothing else
abbrev pub after_command : Registry → Command → Registry
after_command r command = option_map_or
    (λ c. record { customers = map.insert r.customers (address_named command) c; holders = holders_after r command })
    (once_done (tally []) (customer_at r (address_named command)) command) r

-- why a command is refused by what its own address has, if it is
abbrev pub own_refusal : Registry → Command → Option Refusal
own_refusal r command = refusal_of (terms_at r (address_named command)) command

-- the holder of the number that a command asks for, if it asks for one that is held
abbrev pub holder_in_way : Registry → Command → Option Address
holder_in_way r command = option_and_then (holder_of r) (number_wanted command)

-- a register r answers a command with this result, and is s afterwards
pub record AnswersCommand (r s : Registry) (command : Command) (result : Result (Unit {0}) Refusal) : Type 0 where
  -- what its own address has refuses it
  pub own : (refusal : Refusal) → own_refusal r command ≡ Some refusal → result ≡ Err refusal
  -- else a number that is held refuses it
  pub taken : own_refusal r command ≡ None → IsSome (holder_in_way r command) → result ≡ Err KeyTaken
  -- else nothing refuses it but want of memory, and that only where it asks for a number
  pub memory : own_refusal r command ≡ None → holder_in_way r command ≡ None
      → IfErr result (λ refusal. (refusal ≡ NoMemory) × IsSome (number_wanted command))
  pub done : OnOk result (s ≡ after_command r command)
  pub kept : OnErr result (s ≡ r)
