-- The datagrams that may be answered, by what was seen of their queue. A history is a list of events, newest first.
use Rattle.std.specs.Prelude.{◌≡◌, ℕ, suc, ◌+◌, ◌*◌, ◌/◌, ◌<◌, ◌≤◌, Option, None, Some, IsSomeAnd, List, [], ◌∷◌, ◌++◌, All}
use Rattle.ntp_port.specs.declared.queue_event.QueueEvent.{QueueEvent}
use Rattle.ntp_port.specs.declared.queue_event.QueueEvent.TheVariants.{Held, Looked, Taken, Read}

-- how many datagrams were taken
abbrev pub takes : List QueueEvent → ℕ
takes [] = 0
takes (Taken at ∷ history) = suc (takes history)
takes (other ∷ history) = takes history

-- the datagram that is taken next after the history came after `at`: a call that began then or later saw at most `count` in the
-- queue, which is first in, first out, and at least as many were taken since
abbrev pub CameAfter : List QueueEvent → ℕ → Type 0
CameAfter history at =
    (since : List QueueEvent) × (before : List QueueEvent) × (count : ℕ) × (history ≡ since ++ Held count at ∷ before) × (count ≤ takes since)

-- the datagram that is taken next after the history, and is in hand at `now`, has waited for less than `longest`, in nanoseconds
abbrev pub MayBeAnswered : ℕ → List QueueEvent → ℕ → Type 0
MayBeAnswered longest history now = (at : ℕ) × CameAfter history at × (now < at + longest)

-- when a call began that looked at the queue, the last one that did
abbrev pub last_look : List QueueEvent → Option ℕ
last_look [] = None
last_look (Held count at ∷ history) = Some at
last_look (Looked at ∷ history) = Some at
last_look (other ∷ history) = last_look history

-- the last look at the queue was at most `before` before `now`
abbrev pub WasLookedAt : ℕ → List QueueEvent → ℕ → Type 0
WasLookedAt before history now = IsSomeAnd (last_look history) (λ at. now ≤ at + before)

-- the moment of an event
abbrev pub moment_of : QueueEvent → ℕ
moment_of (Held count at) = at
moment_of (Looked at) = at
moment_of (Taken at) = at
moment_of (Read at) = at

-- the `more` datagrams that are taken next after the history may be of those that a look counted: it counted at least
-- as many as were taken since, and `more`
abbrev pub AreCounted : ℕ → List QueueEvent → Type 0
AreCounted more history =
    (since : List QueueEvent) × (before : List QueueEvent) × (count : ℕ) × (at : ℕ) × (history ≡ since ++ Held count at ∷ before) × (takes since + more ≤ count)

-- the queue was counted: at an event that was at most `before` before `now`, no more had been taken since a look than it counted
abbrev pub WasCounted : ℕ → List QueueEvent → ℕ → Type 0
WasCounted before history now = (newer : List QueueEvent) × (event : QueueEvent) × (older : List QueueEvent)
    × (history ≡ newer ++ event ∷ older) × (now ≤ moment_of event + before) × AreCounted 0 (event ∷ older)

-- the queue was looked at and counted in time before `now`, when a datagram is taken that is dropped from hand: the last look is no
-- older than a tenth of the longest wait, and the last count no older than three tenths, each in nanoseconds and with 100,000 more
abbrev pub WasWatched : ℕ → List QueueEvent → ℕ → Type 0
WasWatched longest history now =
    WasLookedAt (longest / 10 + 100000) history now × WasCounted (longest / 10 * 3 + 100000) history now

-- no event of the history is later than a newer one
abbrev pub IsInOrder : List QueueEvent → Type 0
IsInOrder [] = Unit {0}
IsInOrder (event ∷ history) = All (λ older. moment_of older ≤ moment_of event) history × IsInOrder history
