-- What is kept goes on to be that of a history.
use Rattle.std.proofs.Common.{◌≡◌, ℕ, ◌+◌, ◌-◌, ◌≤◌, ◌⊎◌, inl, inr, List, [], ◌∷◌, ◌++◌, refl, sym, ap, subst, ◌∙◌, arith}
use Rattle.std.specs.Prelude.{All}
use Rattle.ntp_port.specs.{declared.queue_event.QueueEvent.QueueEvent, declared.queue_watch.QueueWatch.QueueWatch}
use Rattle.ntp_port.specs.declared.queue_event.QueueEvent.TheVariants.{Held, Looked, Taken, Read}
use Rattle.ntp_port.specs.Freshness.{takes, moment_of, IsInOrder, AreCounted, WasWatched}
use Rattle.ntp_port.specs.Watch.{Watches, Counts, IsWaiting, longest_of}
use Rattle.ntp_port.specs.Fresh.{KeepsHistory, Dropped, InHand, Swept, AreStale, history_dropped, in_hand, counted_on}
use Rattle.ntp_port.proofs.Watching.{watched-more}

All-cons : {X : Type 0} (P : X → Type 0) (x : X) (xs : List X) → P x → All P xs → All P (x ∷ xs)
All-cons P x xs e f = grind arith

-- when it may be looked again stays in time
LooksAgain-more : (longest next : ℕ) (event : QueueEvent) (history : List QueueEvent) → IsInOrder (event ∷ history)
    → (next ≡ 0) ⊎ WasWatched longest history next → (next ≡ 0) ⊎ WasWatched longest (event ∷ history) next
LooksAgain-more longest next event history ordered h = grind (arith, inl, inr, watched-more)

-- an event that is no take leaves what was counted
Counts-quiet : (watch : QueueWatch) (event : QueueEvent) (history : List QueueEvent)
    → ((since : List QueueEvent) → takes (event ∷ since) ≡ takes since) → Counts watch history → Counts watch (event ∷ history)
Counts-quiet watch event history quiet counts =
    λ waits. let x = counts waits in (event ∷ x.0, x.1, x.2, ap (λ xs. event ∷ xs) x.3, omega (arith, quiet x.0, x.4))

-- and a take leaves one less
pub Counts-took : (watch after : QueueWatch) (history : List QueueEvent) (at : ℕ) → after.seen ≡ watch.seen
    → after.waiting ≡ watch.waiting - 1 → Counts watch history → Counts after (Taken at ∷ history)
Counts-took watch after history at seen less counts =
    λ waits. let x = counts (omega (arith, waits, less)) in (
      Taken at ∷ x.0,
      x.1,
      x.2,
      ap (λ xs. Taken at ∷ xs) x.3 ∙ ap (λ n. Taken at ∷ (x.0 ++ Held x.2 n ∷ x.1)) (sym seen),
      omega (arith, less, waits, x.4),
    )

-- the next datagram is one of those
pub counts-one : (watch : QueueWatch) (history : List QueueEvent) → IsWaiting watch → Counts watch history → AreCounted 1 history
counts-one watch history waits counts = grind arith

-- an event of now
StandsFor-event : (watch after : QueueWatch) (reading now next : ℕ) (history : List QueueEvent) (event : QueueEvent) → reading ≤ now
    → moment_of event ≡ now → longest_of after ≡ longest_of watch → KeepsHistory watch reading next history → Watches after (event ∷ history)
    → Counts after (event ∷ history) → KeepsHistory after now next (event ∷ history)
StandsFor-event watch after reading now next history event later is longest stands watches counts =
    grind (arith, LooksAgain-more, All-cons)

-- what was seen of the queue, by a call that told a watch of it
pub StandsFor-Held : (watch after : QueueWatch) (reading next count : ℕ) → longest_of after ≡ longest_of watch → (count ≡ 0) ⊎ (IsWaiting watch → ⊥)
    → ((history : List QueueEvent) → (count ≡ 0) ⊎ (IsWaiting watch → ⊥) → Watches watch history → Watches after (Held count reading ∷ history))
    → ((history : List QueueEvent) → Counts after (Held count reading ∷ history)) → (history : List QueueEvent)
    → KeepsHistory watch reading next history → KeepsHistory after reading next (Held count reading ∷ history)
StandsFor-Held watch after reading next count longest alone watches counts history stands =
    StandsFor-event watch after reading reading next history (Held count reading) (omega arith) refl longest stands
    (watches history alone stands.watches) (counts history)

pub StandsFor-Looked : (watch : QueueWatch) (reading next : ℕ) (history : List QueueEvent) → KeepsHistory watch reading next history
    → KeepsHistory watch reading next (Looked reading ∷ history)
StandsFor-Looked watch reading next history stands = StandsFor-event watch watch reading reading next history (Looked reading) (omega arith)
    refl refl stands stands.watches (Counts-quiet watch (Looked reading) history (λ since. refl) stands.counts)

pub StandsFor-Taken : (watch after : QueueWatch) (reading next : ℕ) → longest_of after ≡ longest_of watch
    → ((history : List QueueEvent) (at : ℕ) → Watches watch history → Watches after (Taken at ∷ history))
    → ((history : List QueueEvent) (at : ℕ) → Counts watch history → Counts after (Taken at ∷ history)) → (history : List QueueEvent)
    → KeepsHistory watch reading next history → KeepsHistory after reading next (Taken reading ∷ history)
StandsFor-Taken watch after reading next longest watches counts history stands =
    StandsFor-event watch after reading reading next history (Taken reading) (omega arith) refl longest stands
    (watches history reading stands.watches) (counts history reading stands.counts)

pub StandsFor-Read : (watch : QueueWatch) (reading now next : ℕ) (history : List QueueEvent) → reading ≤ now
    → KeepsHistory watch reading next history → KeepsHistory watch now next (Read now ∷ history)
StandsFor-Read watch reading now next history later stands = StandsFor-event watch watch reading now next history (Read now) later refl refl
    stands stands.watches (Counts-quiet watch (Read now) history (λ since. refl) stands.counts)

-- it may be looked again at another moment
pub StandsFor-next : (watch : QueueWatch) (reading next later : ℕ) (history : List QueueEvent)
    → (later ≡ 0) ⊎ WasWatched (longest_of watch) history later
    → KeepsHistory watch reading next history → KeepsHistory watch reading later history
StandsFor-next watch reading next later history looks stands = grind arith

-- these, and then those
pub AreStale-append : (longest : ℕ) (h k m : List QueueEvent) (first second : List Dropped) → AreStale longest h first k
    → AreStale longest k second m → AreStale longest h (first ++ second) m
AreStale-append longest h k m [] second a b = subst (λ xs. AreStale longest xs second m) a b
AreStale-append longest h k m (one ∷ first) second a b =
    (a.0, AreStale-append longest (history_dropped one h) k m first second a.1 b)

-- those in hand are counted one list after the other
pub in_hand-append : (first second : List Dropped) → in_hand (first ++ second) ≡ in_hand first + in_hand second
in_hand-append [] second = omega arith
in_hand-append (InHand take ∷ first) second = omega (arith, in_hand-append first second)
in_hand-append (Swept seen quiet at ∷ first) second = in_hand-append first second

-- and are counted
pub counted-append : (s t v m n : ℕ) → t ≡ counted_on s m → v ≡ counted_on t n → v ≡ counted_on s (m + n)
counted-append s t v m n first second = omega (arith, first, second)
