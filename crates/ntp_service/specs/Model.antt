-- The model of one customer: what the events of one address are answered. There is no table and no neighbour in it.
use Rattle.std.specs.Prelude.{◌≡◌, Bool, false, List, [], map, fold, scan, if◌then◌else◌, None, is_some, option_map}
use Rattle.std.specs.Option.{option_map_or}
use Rattle.ntp_service.specs.{Commands.refusal_of, Commands.once_done, declared.event.Event.Event}
use Rattle.ntp_service.specs.declared.outcome.Outcome.{Outcome}
use Rattle.ntp_reply.specs.{Life.Life, Life.enrolment_in, Replies.occasion_of, Exchanged.is_noted, Exchanged.after_departure}
use Rattle.ntp_reply.specs.Verdict.{verdict, after_datagram}
use Rattle.ntp_service.specs.declared.event.Event.TheVariants as event
use Rattle.ntp_service.specs.declared.outcome.Outcome.TheVariants as outcome

-- the outcome of a report of a departure, which was noted or not
abbrev pub departure_outcome : Bool → Outcome
departure_outcome noted = if noted then outcome.Noted else outcome.NotNoted

-- the answer to an event: a command is refused, if there is a cause, and else done
abbrev pub answer_to : {A : Type 0} → Life → Event A → Outcome
answer_to life (event.Datagram address receipt transmit reference octets) =
    outcome.Datagram (verdict life (occasion_of receipt transmit reference) octets)
answer_to life (event.Departed address receive m) = departure_outcome (option_map_or (λ past. is_noted past receive) life false)
answer_to life (event.Command command) = option_map_or outcome.Refused (refusal_of (enrolment_in life) command) outcome.Done

-- the life after an event: a command that is refused changes nothing
abbrev pub after : {A : Type 0} → Life → Event A → Life
after life (event.Datagram address receipt transmit reference octets) = after_datagram life (occasion_of receipt transmit reference) octets
after life (event.Departed address receive m) = option_map (λ past. after_departure past receive m) life
after life (event.Command command) = if is_some (refusal_of (enrolment_in life) command) then life else once_done [] life command

-- the life after events, from a life on
abbrev pub life_after : {A : Type 0} → Life → List (Event A) → Life
life_after life events = fold after life events

-- the life that events leave
abbrev pub life_of : {A : Type 0} → List (Event A) → Life
life_of events = life_after None events

-- what events are answered, from a life on: each in the life that the events before it left
abbrev pub says_after : {A : Type 0} → Life → List (Event A) → List Outcome
says_after life events = scan after answer_to life events

-- what happened follows the model, from a life on: its outcomes are what its events are answered
abbrev pub FollowsModel : {A : Type 0} → Life → List (Event A × Outcome) → Type 0
FollowsModel life happened = map (λ p. p.1) happened ≡ says_after life (map (λ p. p.0) happened)
