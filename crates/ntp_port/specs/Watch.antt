-- What is kept of a history.
use Rattle.std.specs.Prelude.{◌≡◌, ℕ, suc, ◌+◌, ◌*◌, ◌/◌, ◌<◌, ◌≤◌, ◌⊎◌, ◌++◌, nat_le, ◌&&◌, if◌then◌else◌, Option, None, Some, List, [], ◌∷◌}
use Rattle.ntp_port.specs.declared.queue_event.QueueEvent.{QueueEvent}
use Rattle.ntp_port.specs.declared.queue_event.QueueEvent.TheVariants.{Held, Taken}
use Rattle.ntp_port.specs.{declared.queue_watch.QueueWatch.QueueWatch, Freshness.takes}

-- how long a datagram may have waited, in nanoseconds
abbrev pub longest_of : QueueWatch → ℕ
longest_of watch = watch.longest

-- datagrams that were seen in the queue may still be in it
abbrev pub IsWaiting : QueueWatch → Type 0
IsWaiting watch = 0 < watch.waiting

-- the queue was counted where that had to be known: datagrams that were seen in it may still be in it, or the next one is known to have
-- come not long before `now`
abbrev pub IsCounted : QueueWatch → ℕ → Type 0
IsCounted watch now = IsWaiting watch ⊎ (at : ℕ) × (watch.known ≡ Some at) × (now ≤ at + longest_of watch / 10 * 3)

-- after `more` takes, the latest moment that the next datagram is known to postdate
abbrev pub known_after : ℕ → List QueueEvent → Option ℕ
known_after more [] = None
known_after more (Held count at ∷ history) = if nat_le count more then Some at else known_after more history
known_after more (Taken at ∷ history) = known_after (suc more) history
known_after more (other ∷ history) = known_after more history

-- the same, by what is kept
abbrev pub kept_after : QueueWatch → ℕ → Option ℕ
kept_after watch more = if nat_le 1 watch.waiting && nat_le watch.waiting more then Some watch.seen else watch.known

-- what is kept is that of a history
abbrev pub Watches : QueueWatch → List QueueEvent → Type 0
Watches watch history = (more : ℕ) → known_after more history ≡ kept_after watch more

-- the datagrams that may still be in the queue are what is left of those that a look counted
abbrev pub Counts : QueueWatch → List QueueEvent → Type 0
Counts watch history = IsWaiting watch → (since : List QueueEvent) × (before : List QueueEvent) × (count : ℕ)
    × (history ≡ since ++ Held count watch.seen ∷ before) × (takes since + watch.waiting ≡ count)
