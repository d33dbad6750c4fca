-- What wires in memory tell.
use Rattle.std.specs.Prelude.{◌-◌, Option, None, Some, option_map, List, [], ◌∷◌, map, drop, reverse, slice_get, if◌then◌else◌}
use Rattle.std.specs.Option.{option_map_or}
use Rattle.ntp_packet.specs.declared.moment.Moment.{Moment}
use Rattle.ntp_port.specs.{declared.queue_event.QueueEvent.QueueEvent, Port.ReadClock, Port.TriedSend, Port.Readings}
use Rattle.ntp_host.specs.Wire.{WireDatagram, WireTurn, no_wire_turn, WireTold}
use Rattle.test_support.specs.declared.{memory_wire.Incoming.Incoming, memory_wire.Turn.Turn, memory_wire.MemoryWire.MemoryWire, memory_queue.Log.Log}

-- a datagram of a list of turns, as a wire tells it
abbrev pub wire_datagram : {A : Type 0} → Incoming A → WireDatagram
wire_datagram d = record { address = d.address; port = d.port; octets = d.octets }

-- what a clock shows when it is read first, when it is read then, and from then on
abbrev pub readings_of : Moment → Moment → Moment → Readings
readings_of first next rest [] = first
readings_of first next rest (ReadClock ∷ calls) = readings_of next rest rest calls
readings_of first next rest (TriedSend ∷ calls) = readings_of first next rest calls

-- in a turn; where it has a datagram, its receipt first
abbrev pub turn_clock : {A : Type 0} → Option (Incoming A) → Moment → Moment → Readings
turn_clock None transmit departure = readings_of transmit departure departure
turn_clock (Some d) transmit departure = readings_of d.receipt transmit departure

-- a turn of that list
abbrev pub wire_turn : {A : Type 0} → Turn A → WireTurn
wire_turn turn = record {
  idle = 0;
  arrival = option_map wire_datagram turn.arrival;
  clock = turn_clock turn.arrival turn.transmit turn.departure;
  sends = turn.sends;
}

-- the present turn
abbrev pub wire_present : {A : Type 0} → MemoryWire A → WireTurn
wire_present w = if w.is_present then option_map_or wire_turn (slice_get w.turns.items (w.begun - 1)) no_wire_turn else no_wire_turn

-- what the calls will answer from here on
abbrev pub told_by_wire : {A : Type 0} → MemoryWire A → WireTold
told_by_wire w = record {
  coming = map wire_turn (drop w.begun w.turns.items);
  present = wire_present w;
  clock = if w.is_present then readings_of w.shows w.shows_then w.shows_at_last else no_wire_turn.clock;
  has_tried_send = w.has_tried_send;
  sent = w.sent.items;
}

-- the history that is kept, newest first, where there was room for all of it
abbrev pub history_in : {A : Type 0} → Log A → Option (List QueueEvent)
history_in log = if log.has_missed then None else Some (reverse log.events.items)
