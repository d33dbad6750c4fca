-- What a wire that tells its turns answers, a UDP socket with the clock that is read beside it; and what a port over it tells then.
use Rattle.std.specs.Prelude.{◌≡◌, ◌≢◌, ℕ, zero, suc, ◌-◌, ◌/◌, ◌^◌, ◌==◌, ◌&&◌, nat_le, Bool, true, false, Option, None, Some, option_map, IfSome, IsSomeAnd, Result, Ok, Err, IsOkAnd, IsErrAnd, List, [], ◌∷◌, ◌++◌, length, get_or, map, take, drop, min, if◌then◌else◌}
use Rattle.std.specs.IoError.{error_kind}
use Rattle.std.specs.{declared.io.Error.Error, declared.io.ErrorKind.ErrorKind}
use Rattle.std.specs.declared.io.ErrorKind.TheVariants.{WouldBlock, TimedOut, Interrupted}
use Rattle.std.specs.declared.net.socket_addr.SocketAddr.{SocketAddr}
use Rattle.std.specs.declared.net.socket_addr.SocketAddr.TheVariants.{V4}
use Rattle.std.specs.declared.net.socket_addr.SocketAddrV4.{SocketAddrV4}
use Rattle.std.specs.{Net.Addr.ipv4_octets, Net.Socket.v4_ip, Net.Socket.v4_port}
use Rattle.ntp_packet.specs.declared.moment.Moment.{Moment}
use Rattle.ntp_service.specs.declared.address.Address.{Address}
use Rattle.ntp_port.specs.{declared.sent.Sent.Sent, declared.queue_event.QueueEvent.QueueEvent}
use Rattle.ntp_port.specs.declared.queue_event.QueueEvent.TheVariants.{Held, Taken}
use Rattle.ntp_port.specs.Port.{most_received_octets, IncomingValue, ReadClock, TriedSend, Readings, behind, TurnValue, no_turn, Told, is_sent}

-- a datagram that is to be received
pub record WireDatagram : Type 0 where
  pub address : Address
  pub port : ℕ
  pub octets : List ℕ

-- one turn of a wire: how many receives before it come to nothing, its datagram or a receive that fails, what the clock shows behind that,
-- and whether a reply can be sent
pub record WireTurn : Type 0 where
  pub idle : ℕ
  pub arrival : Option WireDatagram
  pub clock : Readings
  pub sends : Bool

-- the turn before the first, and once the list has run out
abbrev pub no_wire_turn : WireTurn
no_wire_turn = record { idle = 0; arrival = None; clock = no_turn.clock; sends = false }

-- the turns to come, the present one, what the clock will show in it, whether a send was tried in it, and what was sent
pub record WireTold : Type 0 where
  pub coming : List WireTurn
  pub present : WireTurn
  pub clock : Readings
  pub has_tried_send : Bool
  pub sent : List Sent

-- the turn that comes next, and how many receives come to nothing before it: fewer than 2^64 - 1
abbrev pub next_turn : WireTold → WireTurn
next_turn told = get_or told.coming 0 no_wire_turn

abbrev pub idle_before : WireTold → ℕ
idle_before told = min (next_turn told).idle (2 ^ 64 - 2)

-- ---- what the calls of a wire tell
-- whether an error says that nothing came in time, or a signal
abbrev pub is_idle : ErrorKind → Bool
is_idle WouldBlock = true
is_idle TimedOut = true
is_idle Interrupted = true
is_idle _ = false

-- the source of a datagram
abbrev pub IsFrom : SocketAddr → Address → ℕ → Type 0
IsFrom (V4 source) address port = (ipv4_octets (v4_ip source) ≡ address.0) × (v4_port source ≡ port)
IsFrom _ address port = ⊥

-- a receive gives the datagram of a turn, cut to the room, or fails
abbrev pub WireGives : Option WireDatagram → Result (ℕ × SocketAddr) Error → List ℕ → Type 0
WireGives None r room = IsErrAnd r (λ error. is_idle (error_kind error) ≡ false)
WireGives (Some d) r room = IsOkAnd r (λ taken. IsFrom taken.1 d.address d.port × (take taken.0 room ≡ take most_received_octets d.octets))

-- its turn begins
abbrev pub begun : WireTold → WireTold
begun old = record old { coming = drop 1 old.coming; present = next_turn old; clock = (next_turn old).clock; has_tried_send = false }

-- one receive fewer comes to nothing before the next turn
abbrev pub waited : ℕ → WireTold → WireTold
waited left old = record old { coming = record (next_turn old) { idle = left } ∷ drop 1 old.coming }

-- a receive, where so many come to nothing
abbrev pub ReceivesBehind : ℕ → WireTold → WireTold → Result (ℕ × SocketAddr) Error → List ℕ → Type 0
ReceivesBehind zero old new r room = WireGives (next_turn old).arrival r room × (new ≡ begun old)
ReceivesBehind (suc left) old new r room = IsErrAnd r (λ error. is_idle (error_kind error) ≡ true) × (new ≡ waited left old)

abbrev pub WireReceives : Option WireTold → Option WireTold → Result (ℕ × SocketAddr) Error → List ℕ → Type 0
WireReceives None u r room = u ≡ None
WireReceives (Some old) u r room = IsSomeAnd u (λ new. ReceivesBehind (idle_before old) old new r room)

-- what a receive sees of a queue: it took a datagram out of it that came from an IPv4 address, or found it empty; a signal counts as that
abbrev pub seen_in_receive : Result (ℕ × SocketAddr) Error → ℕ → List QueueEvent
seen_in_receive (Ok (length, V4 source)) shown = Taken shown ∷ []
seen_in_receive (Ok other) shown = []
seen_in_receive (Err error) shown = if is_idle (error_kind error) then Held 0 shown ∷ [] else []

-- a reading of the clock
abbrev pub WireShows : Option WireTold → Option WireTold → Moment → Type 0
WireShows t u r = IfSome t (λ old. IsSomeAnd u (λ new. (r ≡ old.clock []) × (new ≡ record old { clock = behind ReadClock old.clock })))

-- a wait, which says of a socket whether it was shut down: then the next turn has no datagram, and begins
abbrev pub WireWaits : Bool → Option WireTold → Option WireTold → Type 0
WireWaits true t u = IfSome t (λ old. ((next_turn old).arrival ≡ None) × (u ≡ Some (begun old)))
WireWaits false t u = u ≡ t

-- a receive whose datagram nobody sees, and whose receipt is not read
abbrev pub WireDrops : Bool → Option WireTold → Option WireTold → Type 0
WireDrops true t u = IfSome t (λ old. (d : WireDatagram) × ((next_turn old).arrival ≡ Some d)
    × (u ≡ Some (record (begun old) { clock = behind ReadClock (next_turn old).clock })))
WireDrops false t u = u ≡ t

-- ---- what a port over a wire tells
-- the middle of two moments of one era, where they are in order, and else the second of them
abbrev pub middle : Option Moment → Moment → Moment
middle None second = second
middle (Some first) second = if first.era == second.era && nat_le first.stamp.0 second.stamp.0
    then record second { stamp = record { 0 = second.stamp.0 - (second.stamp.0 - first.stamp.0) / 2 } } else second

-- the clock of a port: what it shows, but behind a send the middle between that and what it showed before
abbrev pub departing : Option Moment → Bool → Readings → Readings
departing shown sent clock [] = if sent then middle shown (clock []) else clock []
departing shown sent clock (ReadClock ∷ calls) = departing (Some (clock [])) false (behind ReadClock clock) calls
departing shown sent clock (TriedSend ∷ calls) = departing shown true (behind TriedSend clock) calls

-- in a turn with a datagram its first reading is the receipt
abbrev pub port_clock : Option WireDatagram → Readings → Readings
port_clock None clock = departing None false clock
port_clock (Some d) clock = departing None false (behind ReadClock clock)

abbrev pub port_datagram : Readings → WireDatagram → IncomingValue
port_datagram clock d = record { address = d.address; port = d.port; receipt = clock []; octets = d.octets }

abbrev pub port_turn : WireTurn → TurnValue
port_turn turn = record {
  arrival = option_map (port_datagram turn.clock) turn.arrival;
  clock = port_clock turn.arrival turn.clock;
  sends = turn.sends;
}

-- what it tells, by what the clock showed last in the turn, and whether a send was tried since
abbrev pub port_told : Option Moment → Bool → WireTold → Told
port_told shown sent w = record {
  coming = map port_turn w.coming;
  present = port_turn w.present;
  clock = departing shown sent w.clock;
  has_tried_send = w.has_tried_send;
  sent = w.sent;
}

-- ---- a send
-- a reply to where it is sent
abbrev pub sent_to : SocketAddrV4 → List ℕ → Sent
sent_to target reply = record { address = record { 0 = ipv4_octets (v4_ip target) }; port = v4_port target; reply = reply }

-- it is sent whole, or not
abbrev pub SendsWhole : Bool → Result ℕ Error → List ℕ → Type 0
SendsWhole true r reply = r ≡ Ok (length reply)
SendsWhole false r reply = r ≢ Ok (length reply)

-- what a send tells: whether the turn sends, nothing was tried to be sent in it, and the reply is not too long
abbrev pub wire_sends : WireTold → List ℕ → Bool
wire_sends old reply = is_sent (port_told None false old) reply

abbrev pub WireSends : Option WireTold → Option WireTold → SocketAddrV4 → List ℕ → Result ℕ Error → Type 0
WireSends t u target reply r = IfSome t (λ old. IsSomeAnd u (λ new. SendsWhole (wire_sends old reply) r reply
    × (new ≡ record old {
      clock = behind TriedSend old.clock;
      has_tried_send = true;
      sent = if wire_sends old reply then old.sent ++ sent_to target reply ∷ [] else old.sent;
    })))
