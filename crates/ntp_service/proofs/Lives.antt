-- Lives by their cases, what is kept of them, and the commands that leave them as they are.
use Rattle.std.proofs.Common.{◌≡◌, ◌≢◌, ℕ, List, [], Some, None, is_some, option_map, refl, arith}
use Rattle.std.specs.{Prelude.if◌then◌else◌, Option.option_map_or}
use Rattle.std.proofs.lemmas.Option.{none-some, same_Some}
use Rattle.ntp_customer.specs.{Customer.AccountOf, Customer.CustomerState, Customer.enrolment_at, Past.Past, Past.short}
use Rattle.ntp_customer.proofs.PublicLaws.{by_past}
use Rattle.ntp_service.specs.declared.{command.Command.Command, outcome.Outcome.Outcome, outcome.Outcome.TheVariants.Done}
use Rattle.ntp_service.specs.{declared.outcome.Outcome.TheVariants.Refused, Commands.refusal_of, Commands.once_done}
use Rattle.ntp_reply.specs.Life.{Life, enrolment_in}

-- a life is that of an address that was never enrolled, of one that is not enrolled now, or of one that is
module _ (P : Life → Type 0) (never : P None) (out : (refusals : List ℕ) → P (Some (record { account = None; refusals = refusals })))
    (enrolled : (a : AccountOf (List ℕ)) (refusals : List ℕ) → P (Some (record { account = Some a; refusals = refusals }))) where
  pub by_life : (life : Life) → P life
  by_life life = grind (arith, by_past)

-- what holds of each past that leaves this holds of a life that leaves it
pub by_kept : (P : Life → Type 0) (c : CustomerState) → ((past : Past) → short past ≡ c → P (Some past))
    → (life : Life) → option_map short life ≡ Some c → P life
by_kept P c e life f = grind (arith, none-some, same_Some)

-- a life that leaves nothing
pub never-enrolled : (life : Life) → option_map short life ≡ None → life ≡ None
never-enrolled life e = grind (arith, none-some)

-- the enrolment is kept
pub enrolment-kept : (life : Life) → option_map_or enrolment_at (option_map short life) None ≡ enrolment_in life
enrolment-kept = by_life _ refl (λ refusals. refl) (λ a refusals. refl)

-- the answer to a command, and the life after it
abbrev pub command_answer : Life → Command → Outcome
command_answer life c = option_map_or Refused (refusal_of (enrolment_in life) c) Done

abbrev pub life_after_command : Life → Command → Life
life_after_command life c = if is_some (refusal_of (enrolment_in life) c) then life else once_done [] life c

-- a command that is not done leaves the life
pub undone : (c : Command) (life : Life) → command_answer life c ≢ Done → life_after_command life c ≡ life
undone c life = grind (arith, is_some)
