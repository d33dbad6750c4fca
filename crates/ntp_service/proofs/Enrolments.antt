-- Enrolments: commands alone change them, and what asks for a number depends on them alone.
use Rattle.std.proofs.Common.{◌≡◌, false, Option, Some, None, option_map, List, [], arith}
use Rattle.std.specs.Int.NonZero.{non_zero_u16_get}
use Rattle.ntp_customer.specs.Customer.{Enrolment, enrolment_of}
use Rattle.ntp_customer.proofs.PublicLaws.{with_key, without_key}
use Rattle.ntp_service.specs.{declared.address.Address.Address, declared.command.Command.Command, declared.event.Event.Event}
use Rattle.ntp_service.specs.{Events.address_of, Events.own, Commands.numbered, Commands.once_done}
use Rattle.ntp_service.specs.{Headline.IsTaken, Headline.number_asked, Split.is_command}
use Rattle.ntp_reply.specs.Life.{Life, enrolment_in}
use Rattle.ntp_service.specs.declared.command.Command.TheVariants.{Enrol, Revoke, Budget, Rollover, Retire}
use Rattle.ntp_service.specs.Model.{answer_to, after, life_of}
use Rattle.ntp_service.proofs.Lives.{by_life, command_answer, life_after_command}
use Rattle.ntp_service.proofs.Bounds.{same-enrolment}

-- the enrolment after a command that is done, by that before it
abbrev enrolment_after : Option Enrolment → Command → Option Enrolment
enrolment_after terms (Enrol address number key budget) = Some (enrolment_of (numbered number key) (non_zero_u16_get budget))
enrolment_after terms (Revoke address) = None
enrolment_after terms (Budget address budget) = option_map {T = Enrolment} (λ e. record e { budget = non_zero_u16_get budget }) terms
enrolment_after terms (Rollover address number key) = option_map {T = Enrolment} (λ e. with_key e (numbered number key)) terms
enrolment_after terms (Retire address number) = option_map {T = Enrolment} (λ e. without_key e (non_zero_u16_get number)) terms

enrolment-done : (c : Command) (life : Life) → enrolment_in (once_done [] life c) ≡ enrolment_after (enrolment_in life) c
enrolment-done c life = grind (arith, by_life)

-- with one enrolment a command leaves one, and is answered alike
enrolment-command : (c : Command) (one other : Life) → enrolment_in one ≡ enrolment_in other
    → enrolment_in (life_after_command one c) ≡ enrolment_in (life_after_command other c)
enrolment-command c one other same = grind (arith, enrolment-done c one, enrolment-done c other)

pub command-alike : (c : Command) (one other : Life) → enrolment_in one ≡ enrolment_in other → command_answer one c ≡ command_answer other c
command-alike c one other same = cc

module _ {A : Type 0} where
  -- what is no command leaves the enrolment, and asks for no number
  pub enrolment-other : (life : Life) (e : Event A) → is_command e ≡ false → enrolment_in (after life e) ≡ enrolment_in life
  enrolment-other life e f = grind (arith, same-enrolment, by_life)

  pub asks-nothing : (e : Event A) → is_command e ≡ false → number_asked e ≡ None
  asks-nothing e f = grind arith

  -- with one enrolment an event leaves one
  pub enrolment-alike : (one other : Life) (e : Event A) → enrolment_in one ≡ enrolment_in other
      → enrolment_in (after one e) ≡ enrolment_in (after other e)
  enrolment-alike one other e f = grind (arith, enrolment-command, enrolment-other)

  -- whether a number is taken depends on enrolments alone
  pub taken-over : (one other : List (Event A)) (e : Event A)
      → answer_to (life_of (own (address_of e) one)) e ≡ answer_to (life_of (own (address_of e) other)) e
      → ((a : Address) → enrolment_in (life_of (own a one)) ≡ enrolment_in (life_of (own a other))) → IsTaken one e → IsTaken other e
  taken-over one other e answers lives is = grind arith
