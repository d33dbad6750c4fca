-- What comes of a query.
use Rattle.std.specs.Prelude.{ℕ, List, [], ◌∷◌, Bool, true, false, Option, Some, None}
use Rattle.std.specs.Option.{option_map_or}
use Rattle.ntp_packet.specs.{declared.moment.Moment.Moment, Header.HeaderFields}
use Rattle.ntp_client.specs.{declared.taken.Taken.Taken, State.ClientState, Taking.taken_for, Taking.header_taken}
use Rattle.ntp_client.specs.declared.taken.Taken.TheVariants as taken
use Rattle.ntp_query.specs.{declared.outcome.Outcome.Outcome, declared.outcome.Unreached.Unreached, declared.answer.Answer.Answer}
use Rattle.ntp_query.specs.Answer.{answer_of}
use Rattle.ntp_query.specs.declared.outcome.Outcome.TheVariants.{Answered, Rate, Deny, Nak, Refused, Silence, Unreachable}

-- what a client takes octets for, and of a sample what the header that it judged tells, which it has
abbrev pub heard_as : Taken → Option HeaderFields → Outcome
heard_as (taken.Sample sample) header = option_map_or (λ h. Answered (answer_of sample true h)) header Silence
heard_as taken.Rate header = Rate
heard_as taken.Deny header = Deny
heard_as taken.Nak header = Nak
heard_as (taken.Refused why) header = Refused why

-- what octets come to that arrive at a moment
abbrev pub heard : ClientState → List ℕ → Moment → Outcome
heard c octets at = heard_as (taken_for c octets at) (header_taken c octets)

-- the answer of an outcome, if it is one
abbrev pub answer_in : Outcome → Option Answer
answer_in (Answered answer) = Some answer
answer_in other = None

-- whether an outcome ends the query: a sample and a signed RATE
abbrev pub ends : Outcome → Bool
ends (Answered answer) = true
ends Rate = true
ends other = false

-- the last of some outcomes, or silence
abbrev pub last_or : Outcome → List Outcome → Outcome
last_or before [] = before
last_or before (o ∷ others) = last_or o others

-- what a query comes to where the network said why the server is not reached: that, in the place of silence
abbrev pub or_unreachable : Outcome → Option Unreached → Outcome
or_unreachable Silence (Some why) = Unreachable why
or_unreachable o said = o
