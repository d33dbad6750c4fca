-- A turn that a server made, and what it gives.
use Rattle.std.specs.Prelude.{Bool, true, false, None, Some, is_some, option_to_list, List, [], ◌∷◌, length, map, if◌then◌else◌}
use Rattle.ntp_packet.specs.declared.stamp.Stamp.{Stamp}
use Rattle.ntp_reply.specs.{Reference.ReferenceState, Verdict.reply_in, declared.answers.Answer.Answer}
use Rattle.ntp_reply.specs.declared.answers.Answer.TheVariants as answer
use Rattle.ntp_service.specs.{declared.observation.Arrival.Arrival, declared.observation.Sending.Sending}
use Rattle.ntp_service.specs.declared.observation.TurnOutcome.{TurnOutcome}
use Rattle.ntp_service.specs.declared.observation.TurnOutcome.TheVariants.{NothingReceived, Answered}
use Rattle.ntp_service.specs.{declared.event.Event.Event, declared.outcome.Outcome.Outcome, Model.departure_outcome}
use Rattle.ntp_service.specs.declared.observation.Sending.TheVariants.{NoReply, NotSent, Sent as WasSent, Noted, NotNoted}
use Rattle.ntp_service.specs.declared.event.Event.TheVariants as event
use Rattle.ntp_service.specs.declared.outcome.Outcome.TheVariants as outcome
use Rattle.ntp_port.specs.declared.sent.Sent.{Sent}
use Rattle.ntp_port.specs.Port.{IncomingValue, ReadClock, TriedSend, Readings, TurnValue, received}

-- a turn in which nothing was received; and one with its datagram, its answer, and whether the departure is noted of the reply, if it is
-- time and is sent. Each has what the clock shows in it, and whether a reply can be sent
pub data Made : Type 0 where
  Missed : Readings → Bool → Made
  Received : IncomingValue → Readings → Bool → Answer → Bool → Made

-- the turn of the port
abbrev pub turn_of : Made → TurnValue
turn_of (Missed clock sends) = record { arrival = None; clock = clock; sends = sends }
turn_of (Received d clock sends a noted) = record { arrival = Some d; clock = clock; sends = sends }

-- the receive stamp of a time reply, if it is sent: its departure is reported
abbrev pub departing : Bool → Answer → List Stamp
departing true (answer.Time reply saved) = saved ∷ []
departing sends other = []

-- what happened in a turn: its datagram, with the first reading of the clock; and where the answer was time and was sent, the
-- departure, with the next one, behind the send
abbrev pub happened_in_turn : {A : Type 0} → ReferenceState → Made → List (Event A × Outcome)
happened_in_turn reference (Missed clock sends) = []
happened_in_turn reference (Received d clock sends a noted) =
    (event.Datagram d.address d.receipt (clock []) reference (received d), outcome.Datagram a)
    ∷ map (λ saved. (event.Departed d.address saved (clock (ReadClock ∷ TriedSend ∷ [])), departure_outcome noted))
    (departing sends a)

-- what a turn sends: the reply, if any, to where the datagram came from
abbrev pub sent_in : Made → List Sent
sent_in (Received d clock true a noted) = map (λ reply. record { address = d.address; port = d.port; reply = reply }) (option_to_list (reply_in a))
sent_in other = []

-- whether a turn has a datagram
abbrev pub has_arrived : Made → Bool
has_arrived m = is_some (turn_of m).arrival

-- whether a departure was noted in it
abbrev pub has_departed : Made → Bool
has_departed (Received d clock true (answer.Time reply saved) true) = true
has_departed other = false

-- whether it has a reply that could not be sent
abbrev pub is_unsent : Made → Bool
is_unsent (Received d clock false a noted) = is_some (reply_in a)
is_unsent other = false

-- what is told of a datagram beside its octets
abbrev pub arrival_of : IncomingValue → Arrival
arrival_of d = record { address = d.address; port = d.port; length = length (received d); receipt = d.receipt }

-- what became of the reply of an answer
abbrev pub sending_of : Answer → Bool → Bool → Sending
sending_of (answer.Silent why) sends noted = NoReply
sending_of other false noted = NotSent
sending_of (answer.Time reply saved) true noted = if noted then Noted else NotNoted
sending_of other true noted = WasSent

-- what a turn comes to
abbrev pub turn_outcome : Made → TurnOutcome
turn_outcome (Missed clock sends) = NothingReceived
turn_outcome (Received d clock sends a noted) = Answered (arrival_of d) a (sending_of a sends noted)
