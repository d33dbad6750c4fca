-- Not to be believed: for proofs. The steps from what an address has to what it is to have.
use Rattle.std.specs.Prelude.{ℕ, ◌≡◌, ◌≢◌, ◌==◌, if◌then◌else◌, ◌++◌, [], ◌∷◌, Bool, true, false, Option, None, Some, option_map, option_and_then, List, All, IfSome, IsSome, Contains, fold, filter_map}
use Rattle.std.specs.Int.NonZero.{non_zero_u16_get}
use Rattle.ntp_customer.specs.Tally.{tally}
use Rattle.ntp_customer.specs.Customer.{Enrolment, enrolment_at, customer_from, numbers_in}
use Rattle.ntp_service.specs.{declared.address.Address.Address, declared.command.Command.Command}
use Rattle.ntp_service.specs.declared.command.Command.TheVariants.{Budget}
use Rattle.ntp_service.specs.Commands.{address_named, number_wanted, once_done, refusal_of}
use Rattle.ntp_service.specs.Registry.{Registry, customer_at, terms_at}
use Rattle.ntp_clerk.specs.{declared.wanted.Terms.Terms}
use Rattle.ntp_clerk.specs.Leading.{Holds, enrolment_with, IsNeededAt, KeepsNoKey, LeadsTo, NobodyIsForgotten}

-- the commands of steps
abbrev pub done_in : List (Option Command) → List Command
done_in steps = filter_map (λ step. step) steps

-- a number is noted that was not
pub record NotesOne (number : ℕ) (old new : ℕ → Bool) : Type 0 where
  pub free : old number ≡ false
  pub noted : new number ≡ true
  pub others : (n : ℕ) → n ≢ number → new n ≡ old n

-- numbers are noted, one after another
abbrev pub NotesAll : List ℕ → (ℕ → Bool) → (ℕ → Bool) → Type 0
NotesAll [] old new = (n : ℕ) → new n ≡ old n
NotesAll (number ∷ numbers) old new = (next : ℕ → Bool) × NotesOne number old next × NotesAll numbers next new

-- the terms of an address are noted, and its numbers, where none of them was
pub record Notes (address : Address) (terms : Terms) (old new : Address → Option Terms) (numbers noted : ℕ → Bool) : Type 0 where
  pub free : old address ≡ None
  pub here : new address ≡ Some terms
  pub others : (q : Address) → q ≢ address → new q ≡ old q
  pub all : NotesAll (numbers_in (enrolment_with terms)) numbers noted

-- what an address is enrolled with after its command is done
abbrev pub terms_after : Option Enrolment → Command → Option Enrolment
terms_after held c = option_and_then enrolment_at (once_done (tally []) (option_map (customer_from (tally [])) held) c)

-- the command that gives an address the wanted budget, where it has another
abbrev pub rebudgeting : Address → Terms → Terms → Option Command
rebudgeting address held wanted =
    if non_zero_u16_get held.budget == non_zero_u16_get wanted.budget then None else Some (Budget address wanted.budget)

-- what an address has refuses none of these commands, one after another
abbrev pub RefusesNone : Option Enrolment → List Command → Type 0
RefusesNone held [] = Unit {0}
RefusesNone held (c ∷ cs) = (refusal_of held c ≡ None) × RefusesNone (terms_after held c) cs

-- no other address has the number that a command asks for
abbrev pub IsFree : Registry → Command → Type 0
IsFree r c = (other : Address) → other ≢ address_named c → IfSome (number_wanted c) (λ number. Holds (terms_at r other) number → ⊥)

-- nothing but want of memory refuses a command
pub record CanDo (r : Registry) (c : Command) : Type 0 where
  pub own : refusal_of (terms_at r (address_named c)) c ≡ None
  pub free : IsFree r c

-- nothing but want of memory refuses commands for an address, one after another
pub record CanDoAll (r : Registry) (address : Address) (cs : List Command) : Type 0 where
  pub named : All (λ c. address_named c ≡ address) cs
  pub refused : RefusesNone (terms_at r address) cs
  pub free : All (IsFree r) cs

-- commands lead from what an address has to this, ask for no other number, and none of them is refused by what it has
pub record Goes (held : Option Enrolment) (cs : List Command) (new : Option Enrolment) : Type 0 where
  pub leads : fold terms_after held cs ≡ new
  pub refused : RefusesNone held cs
  pub asks : All (λ c. IfSome (number_wanted c) (Holds new)) cs

-- commands for an address are done: they change what it is enrolled with, and no other
pub record AreDone (r : Registry) (address : Address) (cs : List Command) (s : Registry) : Type 0 where
  pub leads : LeadsTo r cs s
  pub here : terms_at s address ≡ fold terms_after (terms_at r address) cs
  pub others : (other : Address) → other ≢ address → terms_at s other ≡ terms_at r other
  pub known : NobodyIsForgotten r s

-- each key of an enrolment is wanted
abbrev pub OnlyWanted : Option Enrolment → Option Enrolment → Type 0
OnlyWanted None wanted = Unit {0}
OnlyWanted (Some e) None = ⊥
OnlyWanted (Some e) (Some f) = All (Contains f.keys) e.keys

-- of what an address held it has all keys that are wanted, and all else where it was as wanted
pub record Kept (held wanted now : Option Enrolment) : Type 0 where
  pub same : held ≡ wanted → now ≡ held
  pub keeps : KeepsNoKey now wanted → KeepsNoKey held wanted

-- commands that are not refused take from an address what is not wanted of it
pub record Frees (address : Address) (held wanted : Option Enrolment) (cs : List Command) : Type 0 where
  pub refused : RefusesNone held cs
  pub asks : All (λ c. number_wanted c ≡ None) cs
  pub needed : All (IsNeededAt address held wanted) cs
  pub kept : Kept held wanted (fold terms_after held cs)
  pub only : OnlyWanted (fold terms_after held cs) wanted

-- commands for an address are given to a service behind others, and each is needed
pub record Moves (r : Registry) (address : Address) (wanted : Option Enrolment) (old new : List Command) (s : Registry) : Type 0 where
  pub more : List Command
  pub noted : new ≡ old ++ more
  pub done : AreDone r address more s
  pub needed : All (IsNeededAt address (terms_at r address) wanted) more
  pub kept : Kept (terms_at r address) wanted (terms_at s address)

-- two commands make an address a revoked one; nobody is enrolled then, and nobody is forgotten
pub record Revokes (r : Registry) (address : Address) (old new : List Command) (s : Registry) : Type 0 where
  pub more : List Command
  pub noted : new ≡ old ++ more
  pub leads : LeadsTo r more s
  pub is_known : IsSome (customer_at s address)
  pub nobody : (other : Address) → terms_at s other ≡ None
  pub known : NobodyIsForgotten r s
