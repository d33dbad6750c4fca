-- An event in lives that leave the same.
use Rattle.std.proofs.Common.{◌≡◌, ◌<◌, [], Option, Some, None, is_some, option_map, refl, sym, ap, ◌∙◌, arith}
use Rattle.std.specs.{Prelude.if◌then◌else◌, Option.option_map_or, Int.NonZero.non_zero_u16_get}
use Rattle.std.proofs.lemmas.Option.{none-some, same_Some}
use Rattle.ntp_customer.specs.{Tally.most_counted, Tally.tally, Past.Past, Past.short}
use Rattle.ntp_customer.specs.Customer.{CustomerState, enrolment_of, enrolment_at, budget_of}
use Rattle.ntp_reply.specs.{Life.Life, Replies.occasion_of}
use Rattle.ntp_reply.proofs.PublicLaws.{short-new, departure-alike, datagram-alike}
use Rattle.ntp_service.specs.declared.{command.Command.Command, command.Command.TheVariants.Enrol, event.Event.Event}
use Rattle.ntp_service.specs.{declared.outcome.Outcome.Outcome, Commands.numbered, Commands.refusal_of, Commands.once_done}
use Rattle.ntp_service.specs.Model.{departure_outcome, answer_to, after}
use Rattle.ntp_service.specs.declared.event.Event.TheVariants as event
use Rattle.ntp_service.specs.declared.outcome.Outcome.TheVariants as outcome
use Rattle.ntp_service.proofs.Lives.{by_life, enrolment-kept, command_answer, life_after_command}

-- what is kept after a command that is done follows from what was kept
pub kept-done : (c : Command) (life : Life) → once_done (tally []) (option_map short life) c ≡ option_map short (once_done [] life c)
kept-done (Enrol address number key budget) = λ life. ap Some (short-new (enrolment_of (numbered number key) (non_zero_u16_get budget)))
kept-done other = by_life _ refl (λ refusals. refl) (λ a refusals. refl)

-- the answer to a command, and what is kept after it, by what was kept
abbrev by_customer : Command → Option CustomerState → Outcome × Option CustomerState
by_customer c o =
    let refusal = refusal_of (option_map_or enrolment_at o None) c in
    (option_map_or outcome.Refused refusal outcome.Done, if is_some refusal then o else once_done (tally []) o c)

kept-command : (c : Command) (life : Life)
    → by_customer c (option_map short life) ≡ (command_answer life c, option_map short (life_after_command life c))
kept-command c life = grind (arith, enrolment-kept life, kept-done c life)

module _ {A : Type 0} where
  -- two pasts that leave the same answer an event alike, and leave the same afterwards
  alike : (one other : Past) (e : Event A) → short one ≡ short other → budget_of one < most_counted
      → (answer_to (Some one) e ≡ answer_to (Some other) e)
      × (option_map short (after (Some one) e) ≡ option_map short (after (Some other) e))
  alike one other (event.Datagram address receipt transmit reference octets) same few =
      let both = datagram-alike one other same few (occasion_of receipt transmit reference) octets in (ap outcome.Datagram both.0, ap Some both.1)
  alike one other (event.Departed address receive m) same few =
      let both = departure-alike one other same receive m in (ap departure_outcome both.0, ap Some both.1)
  alike one other (event.Command c) same few =
      let both = sym (kept-command c (Some one)) ∙ ap (λ x. by_customer c (Some x)) same ∙ kept-command c (Some other) in (ap (λ p. p.0) both, ap (λ p. p.1) both)

  -- and so in two lives
  pub tells-all : (one other : Life) (e : Event A) → option_map short one ≡ option_map short other
      → option_map_or budget_of one 0 < most_counted
      → (answer_to one e ≡ answer_to other e) × (option_map short (after one e) ≡ option_map short (after other e))
  tells-all None None e same few = (refl, refl)
  tells-all None (Some other) e same few = absurd (none-some (short other) same)
  tells-all (Some one) None e same few = absurd (none-some (short one) (sym same))
  tells-all (Some one) (Some other) e same few = alike one other e (same_Some (short one) (short other) same) few
