-- The exchanges of an address are apart, whatever events it had.
use Rattle.std.proofs.Common.{◌≡◌, Bool, List, [], ◌∷◌, Some, None, is_some, option_map, refl, arith}
use Rattle.std.proofs.lemmas.Grind.{common_steps}
use Rattle.std.specs.Prelude.{if◌then◌else◌}
use Rattle.ntp_customer.specs.{Exchanges.AreSaved, Customer.Enrolment, Customer.with_terms}
use Rattle.ntp_customer.proofs.PublicLaws.{AreSaved-nil, with_key, without_key}
use Rattle.ntp_reply.specs.{Life.Life, Life.enrolment_in, Life.recent_in, Kind.kind_of, Replies.occasion_of}
use Rattle.ntp_reply.proofs.PublicLaws.{AreSaved-none, AreSaved-after_kind, AreSaved-after_departure}
use Rattle.ntp_service.specs.{declared.command.Command.Command, declared.event.Event.Event, Commands.refusal_of}
use Rattle.ntp_service.specs.{Commands.once_done, Model.after, Model.life_after, Model.life_of}
use Rattle.ntp_service.specs.declared.event.Event.TheVariants as event
use Rattle.ntp_service.proofs.Lives.{by_life}

-- a change of terms leaves the exchanges
changed : (change : Enrolment → Enrolment) (life : Life) → recent_in (option_map (with_terms change) life) ≡ recent_in life
changed change = by_life _ refl (λ refusals. refl) (λ a refusals. refl)

AreSaved-done : (life : Life) (c : Command) → AreSaved (recent_in life) → AreSaved (recent_in (once_done [] life c))
AreSaved-done life c e = grind (arith, AreSaved-none, changed, with_key, without_key)

AreSaved-command : (life : Life) (c : Command) (b : Bool) → AreSaved (recent_in life)
    → AreSaved (recent_in (if b then life else once_done [] life c))
AreSaved-command life c b e = grind (arith, common_steps, AreSaved-done)

module _ {A : Type 0} where
  AreSaved-after : (life : Life) (e : Event A) → AreSaved (recent_in life) → AreSaved (recent_in (after life e))
  AreSaved-after life (event.Command c) are = AreSaved-command life c (is_some (refusal_of (enrolment_in life) c)) are
  AreSaved-after None other are = are
  AreSaved-after (Some past) (event.Datagram address receipt transmit reference octets) are =
      AreSaved-after_kind past (occasion_of receipt transmit reference) (kind_of past octets) are
  AreSaved-after (Some past) (event.Departed address receive m) are = AreSaved-after_departure past receive m are

  AreSaved-life_after : (life : Life) (events : List (Event A)) → AreSaved (recent_in life) → AreSaved (recent_in (life_after life events))
  AreSaved-life_after life [] are = are
  AreSaved-life_after life (e ∷ events) are = AreSaved-life_after (after life e) events (AreSaved-after life e are)

  pub AreSaved-life_of : (events : List (Event A)) → AreSaved (recent_in (life_of events))
  AreSaved-life_of events = AreSaved-life_after None events AreSaved-nil
