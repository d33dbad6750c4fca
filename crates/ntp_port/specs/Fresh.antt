-- What a port does that passes on only what may be answered.
use Rattle.std.specs.Prelude.{◌≡◌, ℕ, suc, ◌+◌, ◌-◌, ◌^◌, ◌<◌, ◌≤◌, ◌⊎◌, min, Option, None, Some, Result, Ok, Err, List, [], ◌∷◌, ◌++◌, length, All}
use Rattle.ntp_service.specs.declared.observation.Arrival.{Arrival}
use Rattle.ntp_port.specs.{declared.port.PortFault.PortFault, declared.queue_event.QueueEvent.QueueEvent}
use Rattle.ntp_port.specs.Port.{Told, ReceiveTells, TellsOn, DropsTurns}
use Rattle.ntp_port.specs.{declared.queue_watch.QueueWatch.QueueWatch, declared.fresh_port.FreshPort.FreshPort}
use Rattle.ntp_port.specs.Queue.{last_reading, TellsEvents}
use Rattle.ntp_port.specs.declared.queue_event.QueueEvent.TheVariants.{Held, Taken, Read}
use Rattle.ntp_port.specs.declared.queued_port.QueuedPort as queued
use Rattle.ntp_port.specs.declared.port.TimedPort as timed
use Rattle.ntp_port.specs.declared.port.Port as port
use Rattle.ntp_port.specs.Freshness.{takes, moment_of, IsInOrder, MayBeAnswered, AreCounted, WasWatched}
use Rattle.ntp_port.specs.Watch.{Watches, Counts, longest_of}

-- what is kept, with the last reading of the clock and with when the queue may be looked at again, is that of a history whose events
-- are in order and no later than that reading. It may be looked at at once (0), or while the last look and the last count are in time
pub record KeepsHistory (watch : QueueWatch) (reading next_look : ℕ) (history : List QueueEvent) : Type 0 where
  pub watches : Watches watch history
  pub counts : Counts watch history
  pub looks_again : (next_look ≡ 0) ⊎ WasWatched (longest_of watch) history next_look
  pub ordered : IsInOrder history
  pub past : All (λ event. moment_of event ≤ reading) history

-- a datagram that was taken: what was seen since the take before it, newest first, which is no take; from when on the call ran that took
-- it; and what the clock showed once it was in hand
pub record Take : Type 0 where
  pub seen : List QueueEvent
  pub quiet : takes seen ≡ 0
  pub at : ℕ
  pub now : ℕ

-- the history just before the take, and with it
abbrev pub history_before : Take → List QueueEvent → List QueueEvent
history_before take history = take.seen ++ history

abbrev pub history_after : Take → List QueueEvent → List QueueEvent
history_after take history = Read take.now ∷ (Taken take.at ∷ history_before take history)

-- a datagram that was dropped: one that was taken; or one that was swept out, with what was seen since the take before it, newest first,
-- which is no take, and with what the clock had shown when the call began that swept it out
pub data Dropped : Type 0 where
  InHand : Take → Dropped
  Swept : (seen : List QueueEvent) → takes seen ≡ 0 → ℕ → Dropped

-- the history with it
abbrev pub history_dropped : Dropped → List QueueEvent → List QueueEvent
history_dropped (InHand take) history = history_after take history
history_dropped (Swept seen quiet at) history = Taken at ∷ (seen ++ history)

-- it may not be answered, once it is in hand, and the queue was looked at and counted in time before it was taken; or already when the
-- call begins that sweeps it out, and it may be one of those that a look counted
abbrev pub IsStale : ℕ → List QueueEvent → Dropped → Type 0
IsStale longest history (InHand take) =
    (MayBeAnswered longest (history_before take history) take.now → ⊥) × WasWatched longest (history_before take history) take.at
IsStale longest history (Swept seen quiet at) = (MayBeAnswered longest (seen ++ history) at → ⊥) × AreCounted 1 (seen ++ history)

-- these were dropped, one after another, and none of them may be answered
abbrev pub AreStale : ℕ → List QueueEvent → List Dropped → List QueueEvent → Type 0
AreStale longest history [] after = after ≡ history
AreStale longest history (dropped ∷ more) after =
    IsStale longest history dropped × AreStale longest (history_dropped dropped history) more after

-- how many of them were dropped from hand
abbrev pub in_hand : List Dropped → ℕ
in_hand [] = 0
in_hand (InHand take ∷ dropped) = suc (in_hand dropped)
in_hand (Swept seen quiet at ∷ dropped) = in_hand dropped

-- how many one call drops from hand at most
abbrev pub most_sweeps : ℕ
most_sweeps = 4

-- nothing was taken
abbrev pub NothingTaken : List QueueEvent → List QueueEvent → Type 0
NothingTaken history after = (seen : List QueueEvent) × (takes seen ≡ 0) × (after ≡ seen ++ history)

-- the queue was found empty by a call that ran after the history
abbrev pub FoundEmpty : List QueueEvent → List QueueEvent → Type 0
FoundEmpty history after =
    (since : List QueueEvent) × (seen : List QueueEvent) × (at : ℕ) × (after ≡ since ++ Held 0 at ∷ (seen ++ history))

-- what is passed on: a datagram that may be answered, or nothing that was taken; and where nothing is passed on and fewer than four
-- were dropped from hand, the queue was found empty
abbrev pub PassesOn : ℕ → ℕ → List QueueEvent → Option (Result Arrival PortFault) → List QueueEvent → Type 0
PassesOn longest from_hand history (Some (Ok arrival)) after =
    (take : Take) × MayBeAnswered longest (history_before take history) take.now × (after ≡ history_after take history)
PassesOn longest from_hand history (Some (Err fault)) after = NothingTaken history after
PassesOn longest from_hand history None after = NothingTaken history after × (from_hand < most_sweeps → FoundEmpty history after)

-- `count` plus `more`, up to the most that a count can be
abbrev pub counted_on : ℕ → ℕ → ℕ
counted_on count more = min (count + more) (2 ^ 64 - 1)

-- the last reading is the last one that a port tells, where it tells that
abbrev pub IsShown : ℕ → Option (List QueueEvent) → Type 0
IsShown reading None = Unit {0}
IsShown reading (Some told) = last_reading told ≡ reading

-- given that `reading` is the last one that a port told, `now` is it afterwards, and the port saw just what the history has more
abbrev pub IsSeenFrom : ℕ → ℕ → Option (List QueueEvent) → Option (List QueueEvent) → List QueueEvent → List QueueEvent → Type 0
IsSeenFrom reading now old new history after = IsShown reading old → IsShown now new
    × (more : List QueueEvent) × (after ≡ more ++ history) × TellsEvents old new (λ shown. more)

-- what is handed on is what a receive gave, by the turn that it began; where nothing is handed on, no turn began
abbrev pub HandsOnTurn : Option Told → Option Told → Option (Result Arrival PortFault) → List ℕ → Type 0
HandsOnTurn old new None datagram = TellsOn old new
HandsOnTurn old new (Some received) datagram = ReceiveTells old new received datagram

-- what a port keeps that passes on only what may be answered, and what the port below it tells
pub record Kept : Type 0 where
  pub watch : QueueWatch
  pub reading : ℕ
  pub next_look : ℕ
  pub stale : ℕ
  pub sweeps : ℕ
  pub told : Option Told
  pub history : Option (List QueueEvent)

-- what it keeps, by what the port below tells of its turns and of its queue
abbrev pub kept_by : {P : Type 0} {queue : queued.Ghosts P} {timed : timed.Ghosts P} {port : port.Ghosts P} → FreshPort P queue timed port → Kept
kept_by {queue = q} {port = p} f = record {
  watch = f.watch;
  reading = f.reading;
  next_look = f.next_look;
  stale = f.counts.dropped;
  sweeps = f.sweeps;
  told = p.told f.port;
  history = q.history f.port;
}

-- it is that of a history
abbrev pub Stands : Kept → List QueueEvent → Type 0
Stands k history = KeepsHistory k.watch k.reading k.next_look history

-- `count` datagrams that may not be answered were taken from the queue of the port below and dropped, `from_hand` of them from hand, and
-- then `result` was passed on: nothing only where four were dropped from hand, or the queue was found empty
pub record ReceivesFresh (old new : Kept) (count from_hand : ℕ) (history after : List QueueEvent) (result : Option (Result Arrival PortFault))
    : Type 0 where
  pub dropped : List Dropped
  pub between : List QueueEvent
  pub stale : AreStale (longest_of old.watch) history dropped between
  pub passed_on : PassesOn (longest_of old.watch) from_hand between result after
  pub as_many : length dropped ≡ count
  pub hands : in_hand dropped ≡ from_hand
  pub seen : IsSeenFrom old.reading new.reading old.history new.history history after

-- some datagrams were dropped and counted, and those again that were dropped from hand; and what is passed on is the next one, as the
-- port below told it. For each history that `old` stands for, `new` stands for one that goes on from it, with as many dropped
pub record PassesOnFresh (old new : Kept) (result : Option (Result Arrival PortFault)) (datagram : List ℕ) : Type 0 where
  pub dropped : ℕ
  pub counted : new.stale ≡ counted_on old.stale dropped
  pub from_hand : ℕ
  pub swept : new.sweeps ≡ counted_on old.sweeps from_hand
  pub turns : (between : Option Told) × DropsTurns dropped old.told between × HandsOnTurn between new.told result datagram
  pub longest : longest_of new.watch ≡ longest_of old.watch
  pub fresh : (history : List QueueEvent) → Stands old history
      → (after : List QueueEvent) × Stands new after × ReceivesFresh old new dropped from_hand history after result

-- one call comes to that, and drops no more than four from hand
abbrev pub PassesOnInTime : Kept → Kept → Option (Result Arrival PortFault) → List ℕ → Type 0
PassesOnInTime old new result datagram = (passes : PassesOnFresh old new result datagram) × (passes.from_hand ≤ most_sweeps)
