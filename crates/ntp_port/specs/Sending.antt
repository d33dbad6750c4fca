-- Not to be believed: for proofs. What becomes of the reply of an answer, and how a turn is counted.
use Rattle.std.specs.Prelude.{◌≡◌, ◌+◌, Bool, false, Option, None, Some, IfSome, IsSomeAnd, List, ◌∷◌, [], map, if◌then◌else◌}
use Rattle.ntp_packet.specs.{declared.moment.Moment.Moment, declared.stamp.Stamp.Stamp}
use Rattle.ntp_service.specs.{Registry.Registry, declared.observation.Sending.Sending}
use Rattle.ntp_service.specs.declared.observation.TurnOutcome.{TurnOutcome}
use Rattle.ntp_service.specs.declared.observation.TurnOutcome.TheVariants.{NothingReceived, Answered}
use Rattle.ntp_service.specs.{declared.event.Event.Event, Model.departure_outcome, Sending.was_sent, Sending.was_noted}
use Rattle.ntp_service.specs.Headline.{StandsFor, Tells}
use Rattle.ntp_reply.specs.declared.answers.Answer.{Answer}
use Rattle.ntp_reply.specs.declared.answers.Answer.TheVariants as answer
use Rattle.ntp_service.specs.declared.event.Event.TheVariants as event
use Rattle.ntp_port.specs.{declared.port.PortCounts.PortCounts, declared.serving.Served.Served, Serving.Follows}
use Rattle.ntp_port.specs.Port.{IncomingValue, Readings, ReadClock, TriedSend, behind, TurnValue, Told, counted_send}
use Rattle.ntp_port.specs.Made.{Received, departing, sending_of, is_unsent}

-- the receive stamp of a time reply
abbrev pub saved_in : Answer → Option Stamp
saved_in (answer.Time reply saved) = Some saved
saved_in other = None

-- a turn with a datagram
abbrev pub turn_with : IncomingValue → Readings → Bool → TurnValue
turn_with from clock sends = record { arrival = Some from; clock = clock; sends = sends }

-- what a port tells that has begun this turn, whose clock was read, and at which nothing was tried to be sent
pub record HasBegun (old new : Told) (from : IncomingValue) (transmit : Moment) (clock : Readings) (sends : Bool) (rest : List TurnValue) : Type 0 where
  pub first : clock [] ≡ transmit
  pub coming : old.coming ≡ turn_with from clock sends ∷ rest
  pub after : new ≡ record {
    coming = rest;
    present = turn_with from clock sends;
    clock = behind ReadClock clock;
    has_tried_send = false;
    sent = old.sent;
  }

-- a port that tells its turns is in one with this datagram, whose clock showed this moment, and told `t` before it
abbrev pub IsInTurn : Option Told → Option Told → IncomingValue → Moment → Type 0
IsInTurn t u from transmit = IfSome t (λ old. IsSomeAnd u (λ new. (clock : Readings) × (sends : Bool) × (rest : List TurnValue)
    × HasBegun old new from transmit clock sends rest))

-- the reply of an answer to this datagram was sent, or could not be, and its departure was reported where it was time; `t` is what the
-- port told before the turn
pub record SendingMakes (A : Type 0) (answer : Answer) (from : IncomingValue) (transmit : Moment) (t u : Option Told) (a b : PortCounts)
    (service after : Registry) (sending : Sending) : Type 0 where
  pub clock : Readings
  pub first : clock [] ≡ transmit
  pub sends : Bool
  pub noted : Bool
  pub comes_to : sending ≡ sending_of answer sends noted
  pub port : Follows (turn_with from clock sends ∷ []) (Received from clock sends answer noted ∷ []) t u
  pub counts : b ≡ counted_send (is_unsent (Received from clock sends answer noted)) a
  pub tells : (history : List (Event A)) → StandsFor service history
      → let departure = clock (ReadClock ∷ TriedSend ∷ []) in
      Tells history (map (λ saved. (event.Departed from.address saved departure, departure_outcome noted)) (departing sends answer)) after

-- the counts after a turn
abbrev pub counted : TurnOutcome → Served → Served
counted NothingReceived c = c
counted (Answered arrival answer sending) c = record {
  arrivals = c.arrivals + 1;
  sent = c.sent + (if was_sent sending then 1 else 0);
  departed = c.departed + (if was_noted sending then 1 else 0);
}
