-- What a port that tells its turns answers.
use Rattle.std.specs.Prelude.{◌≡◌, ℕ, zero, suc, ◌+◌, ◌^◌, ◌<◌, ◌⊎◌, Bool, false, true, not, ◌&&◌, Option, None, Some, IfSome, IsSomeAnd, Result, Ok, Err, is_err, List, [], ◌∷◌, ◌++◌, length, get_or, take, drop, nat_le, if◌then◌else◌}
use Rattle.ntp_packet.specs.declared.moment.Moment.{Moment}
use Rattle.ntp_mac.specs.Mac.{most_reply_octets}
use Rattle.ntp_service.specs.{declared.address.Address.Address, declared.observation.Arrival.Arrival}
use Rattle.ntp_port.specs.{declared.sent.Sent.Sent, declared.port.PortCounts.PortCounts, declared.port.PortFault.PortFault}
use Rattle.ntp_port.specs.declared.port.PortFault.TheVariants.{Receive, Send}

-- how many octets of a datagram are taken
abbrev pub most_received_octets : ℕ
most_received_octets = 1025

-- a datagram that is to be received; the code's `Incoming` has its octets in memory of an allocator
pub record IncomingValue : Type 0 where
  pub address : Address
  pub port : ℕ
  pub receipt : Moment
  pub octets : List ℕ

-- a call of a turn behind its receive
pub data TurnCall : Type 0 where
  ReadClock : TurnCall
  TriedSend : TurnCall

-- what a clock shows in a turn, after these calls of it
abbrev pub Readings : Type 0
Readings = List TurnCall → Moment

-- what it shows after one call more
abbrev pub behind : TurnCall → Readings → Readings
behind call clock = λ calls. clock (call ∷ calls)

-- one turn of a port: its datagram, if any, what the clock shows, and whether a reply can be sent; the code's `Turn`, whose datagram is
-- in memory of an allocator, has a clock of two moments only
pub record TurnValue : Type 0 where
  pub arrival : Option IncomingValue
  pub clock : Readings
  pub sends : Bool

-- the turn of a port before its first, and once its list has run out: nothing comes, the clock shows stamp 0 of era 0, and nothing can
-- be sent
abbrev pub no_turn : TurnValue
no_turn = record { arrival = None; clock = λ calls. record { era = 0; stamp = record { 0 = 0 } }; sends = false }

-- the turns to come, the present one, what the clock will show in it, whether a send was tried in it, and what was sent
pub record Told : Type 0 where
  pub coming : List TurnValue
  pub present : TurnValue
  pub clock : Readings
  pub has_tried_send : Bool
  pub sent : List Sent

-- the octets of a datagram, as a port gives them: cut
abbrev pub received : IncomingValue → List ℕ
received d = take most_received_octets d.octets

-- a call of `receive` gives the datagram of its turn, and fails where there is none
abbrev pub Arrives : Option IncomingValue → Result Arrival PortFault → List ℕ → Type 0
Arrives None r buffer = r ≡ Err Receive
Arrives (Some d) (Err fault) buffer = ⊥
Arrives (Some d) (Ok a) buffer = (a.address ≡ d.address) × (a.port ≡ d.port) × (a.receipt ≡ d.receipt)
    × (take a.length buffer ≡ received d)

-- it begins this turn
abbrev pub Begins : TurnValue → Told → Told → Result Arrival PortFault → List ℕ → Type 0
Begins turn old new r buffer = Arrives turn.arrival r buffer
    × (new ≡ record old { coming = drop 1 old.coming; present = turn; clock = turn.clock; has_tried_send = false })

-- the next one, at a port that tells its turns, which then goes on to tell them
abbrev pub ReceiveTells : Option Told → Option Told → Result Arrival PortFault → List ℕ → Type 0
ReceiveTells t u r buffer = IfSome t (λ old. IsSomeAnd u (λ new. Begins (get_or old.coming 0 no_turn) old new r buffer))

-- what a call of `now` tells
abbrev pub NowTells : Option Told → Option Told → Moment → Type 0
NowTells t u r = IfSome t (λ old. IsSomeAnd u (λ new. (r ≡ old.clock []) × (new ≡ record old { clock = behind ReadClock old.clock })))

-- whether a reply is sent: the turn sends, nothing was tried to be sent in it, and the reply is not too long
abbrev pub is_sent : Told → List ℕ → Bool
is_sent old reply = (old.present.sends && not old.has_tried_send) && nat_le (length reply) most_reply_octets

-- what a call of `send` tells
abbrev pub SendTells : Option Told → Option Told → Address → ℕ → List ℕ → Result (Unit {0}) PortFault → Type 0
SendTells t u address port reply r = IfSome t (λ old. IsSomeAnd u (λ new. (r ≡ (if is_sent old reply then Ok tt else Err Send))
    × (new ≡ record old {
      clock = behind TriedSend old.clock;
      has_tried_send = true;
      sent = if is_sent old reply then old.sent ++ record { address = address; port = port; reply = reply } ∷ [] else old.sent;
    })))

-- no turn began
abbrev pub TellsOn : Option Told → Option Told → Type 0
TellsOn old new = IfSome old (λ told. new ≡ Some told)

-- what a call tells that drops the next datagram, or could not: where it was dropped, its turn began, as by a receive whose
-- datagram nobody sees
abbrev pub DropTells : Option Told → Option Told → Bool → Type 0
DropTells None new dropped = Unit {0}
DropTells (Some old) new true = (arrival : Arrival) × (datagram : List ℕ) × ReceiveTells (Some old) new (Ok arrival) datagram
DropTells (Some old) new false = new ≡ Some old

-- `n` turns began, one after another, and their datagrams were dropped
abbrev pub DropsTurns : ℕ → Option Told → Option Told → Type 0
DropsTurns zero old new = TellsOn old new
DropsTurns (suc n) old new = (next : Option Told) × DropTells old next true × DropsTurns n next new

-- a count went on by these, as far as a number of 64 bits can count
abbrev pub CountsMore : ℕ → ℕ → ℕ → Type 0
CountsMore count after more = count + more < 2 ^ 64 → after ≡ count + more

-- how many calls failed
abbrev pub failed_calls : PortCounts → ℕ
failed_calls counts = counts.failed_receives + counts.failed_sends

-- the counts behind a send, which failed or not
abbrev pub counted_send : Bool → PortCounts → PortCounts
counted_send failed counts = record counts { failed_sends = counts.failed_sends + (if failed then 1 else 0) }

-- a receive is counted, which failed or not; how many waits in it ended with nothing is not told
abbrev pub CountsReceive : PortCounts → PortCounts → Bool → Type 0
CountsReceive old new failed = (new.failed_receives ≡ old.failed_receives + (if failed then 1 else 0)) × (new.failed_sends ≡ old.failed_sends)

-- a wait is counted, which ended with nothing or with what was received
abbrev pub CountsWait : PortCounts → PortCounts → Option (Result Arrival PortFault) → Type 0
CountsWait old new None = CountsMore old.idle_waits new.idle_waits 1 × CountsReceive old new false
CountsWait old new (Some r) = (new.idle_waits ≡ old.idle_waits) × CountsReceive old new (is_err r)

-- datagrams were dropped and counted, by a port that may drop; by any other none
abbrev pub DropsAny : Bool → ℕ → ℕ → Option Told → Option Told → Type 0
DropsAny false count after old new = (after ≡ count) × (new ≡ old)
DropsAny true count after old new = (dropped : ℕ) × CountsMore count after dropped × DropsTurns dropped old new

-- what is received is that of the next turn; and of a port that may drop, that of the next one behind those that it drops and counts, or
-- it gives up: nothing could be received, and no turn began
abbrev pub Receives : Bool → ℕ → ℕ → Option Told → Option Told → Result Arrival PortFault → List ℕ → Type 0
Receives false count after old new r buffer = (after ≡ count) × ReceiveTells old new r buffer
Receives true count after old new r buffer = (between : Option Told) × DropsAny true count after old between
    × (ReceiveTells between new r buffer ⊎ (r ≡ Err Receive) × TellsOn between new)
