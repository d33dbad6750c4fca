-- Not to be believed: for proofs. What one take comes to.
use Rattle.std.specs.Prelude.{◌≡◌, ℕ, ◌+◌, true, Option, Ok, Err, List, length, ◌++◌}
use Rattle.ntp_port.specs.{declared.port.PortCounts.PortCounts, declared.queue_event.QueueEvent.QueueEvent}
use Rattle.ntp_port.specs.{declared.fresh_port.Next.Next, Freshness.takes, Freshness.MayBeAnswered, Watch.longest_of}
use Rattle.ntp_port.specs.Port.{Told, ReceiveTells, TellsOn, DropTells, DropsTurns}
use Rattle.ntp_port.specs.declared.fresh_port.Next.TheVariants.{Nothing, Fault, Fresh, Stale}
use Rattle.ntp_port.specs.Fresh.{Stands, Take, Dropped, InHand, IsStale, history_before, history_after, AreStale, in_hand, NothingTaken, FoundEmpty, counted_on, IsSeenFrom, Kept}

-- what was taken
abbrev pub ComesTo : ℕ → List QueueEvent → Next → List QueueEvent → Type 0
ComesTo longest history Nothing after = NothingTaken history after × FoundEmpty history after
ComesTo longest history (Fault fault) after = NothingTaken history after
ComesTo longest history (Fresh arrival) after =
    (take : Take) × MayBeAnswered longest (history_before take history) take.now × (after ≡ history_after take history)
ComesTo longest history Stale after = (take : Take) × IsStale longest history (InHand take) × (after ≡ history_after take history)

-- the turn that it began
abbrev pub NextTells : Option Told → Option Told → Next → List ℕ → Type 0
NextTells old new Nothing datagram = TellsOn old new
NextTells old new (Fault fault) datagram = ReceiveTells old new (Err fault) datagram
NextTells old new (Fresh arrival) datagram = ReceiveTells old new (Ok arrival) datagram
NextTells old new Stale datagram = DropTells old new true

-- how many calls failed
abbrev pub failures_in : Next → ℕ
failures_in (Fault fault) = 1
failures_in other = 0

-- that is counted, and nothing else, beside the datagrams that were dropped
abbrev pub CountsNext : PortCounts → PortCounts → Next → Type 0
CountsNext old new next = (new.failed_receives ≡ old.failed_receives + failures_in next) × (new.failed_sends ≡ old.failed_sends)
    × (new.idle_waits ≡ old.idle_waits)

-- how many datagrams were dropped
abbrev pub drops_in : Next → ℕ
drops_in Stale = 1
drops_in other = 0

-- one take came to this, and a history goes on with what it comes to
pub record TakesNext (old new : Kept) (next : Next) (datagram : List ℕ) : Type 0 where
  pub counted : new.stale ≡ counted_on old.stale (drops_in next)
  pub sweeps : new.sweeps ≡ old.sweeps
  pub turns : NextTells old.told new.told next datagram
  pub longest : longest_of new.watch ≡ longest_of old.watch
  pub each : (history : List QueueEvent) → Stands old history → (after : List QueueEvent) × Stands new after
      × IsSeenFrom old.reading new.reading old.history new.history history after
      × ComesTo (longest_of old.watch) history next after

-- a history goes on with what a look sees, and this is said of it then
pub record LooksOn (old new : Kept) (Said : List QueueEvent → ℕ → Type 0) (history : List QueueEvent) : Type 0 where
  pub events : List QueueEvent
  pub quiet : takes events ≡ 0
  pub stands : Stands new (events ++ history)
  pub seen : IsSeenFrom old.reading new.reading old.history new.history history (events ++ history)
  pub looked : Said (events ++ history) old.reading

-- a look was made, or none, which takes no datagram and reads no clock; and this is said of each history then
pub record LooksAtQueue (old new : Kept) (Said : List QueueEvent → ℕ → Type 0) : Type 0 where
  pub reading : new.reading ≡ old.reading
  pub stale : new.stale ≡ old.stale
  pub sweeps : new.sweeps ≡ old.sweeps
  pub told : new.told ≡ old.told
  pub longest : longest_of new.watch ≡ longest_of old.watch
  pub each : (history : List QueueEvent) → Stands old history → LooksOn old new Said history

-- a history went on with `count` datagrams that were dropped, `from_hand` of them from hand
pub record DropsOn (old new : Kept) (count from_hand : ℕ) (history : List QueueEvent) : Type 0 where
  pub after : List QueueEvent
  pub stands : Stands new after
  pub seen : IsSeenFrom old.reading new.reading old.history new.history history after
  pub dropped : List Dropped
  pub stale : AreStale (longest_of old.watch) history dropped after
  pub as_many : length dropped ≡ count
  pub hands : in_hand dropped ≡ from_hand

-- datagrams were dropped, `from_hand` of them from hand
pub record Drops (from_hand : ℕ) (old new : Kept) : Type 0 where
  pub count : ℕ
  pub counted : new.stale ≡ counted_on old.stale count
  pub swept : new.sweeps ≡ counted_on old.sweeps from_hand
  pub turns : DropsTurns count old.told new.told
  pub longest : longest_of new.watch ≡ longest_of old.watch
  pub each : (history : List QueueEvent) → Stands old history → DropsOn old new count from_hand history
