-- What a port tells of its queue: the history of what its calls saw of it, as long as it tells that.
use Rattle.std.specs.Prelude.{◌≡◌, ℕ, ◌≤◌, Option, None, Some, Result, Ok, Err, List, [], ◌∷◌, ◌++◌}
use Rattle.ntp_service.specs.declared.observation.Arrival.{Arrival}
use Rattle.ntp_port.specs.{declared.port.PortFault.PortFault, declared.queue_event.QueueEvent.QueueEvent}
use Rattle.ntp_port.specs.declared.queue_event.QueueEvent.TheVariants.{Held, Taken, Read}

-- what the clock showed last, and 0 before its first reading
abbrev pub last_reading : List QueueEvent → ℕ
last_reading [] = 0
last_reading (Read at ∷ history) = at
last_reading (other ∷ history) = last_reading history

-- a reading of the clock, which never goes back
abbrev pub ReadsClock : Option (List QueueEvent) → Option (List QueueEvent) → ℕ → Type 0
ReadsClock old None now = Unit {0}
ReadsClock None (Some new) now = ⊥
ReadsClock (Some old) (Some new) now = (last_reading old ≤ now) × (new ≡ Read now ∷ old)

-- what a wait for a datagram tells that began when the clock had shown `shown`, or later: a failed one nothing
abbrev pub seen_in_wait : Option (Result Arrival PortFault) → ℕ → List QueueEvent
seen_in_wait None shown = Held 0 shown ∷ []
seen_in_wait (Some (Ok arrival)) shown = Taken shown ∷ []
seen_in_wait (Some (Err fault)) shown = []

-- these events, newest first, were seen after what was seen before, by a call that began when the clock had shown its last reading,
-- or later. A port that tells no longer, or never did, tells nothing of them
abbrev pub TellsEvents : Option (List QueueEvent) → Option (List QueueEvent) → (ℕ → List QueueEvent) → Type 0
TellsEvents old None seen = Unit {0}
TellsEvents None (Some new) seen = ⊥
TellsEvents (Some old) (Some new) seen = new ≡ seen (last_reading old) ++ old
