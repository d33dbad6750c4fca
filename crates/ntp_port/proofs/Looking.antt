-- Looks at a queue.
use Rattle.std.proofs.Common.{◌≡◌, ℕ, ◌+◌, ◌/◌, ◌<◌, ◌≤◌, ◌⊎◌, inr, List, [], ◌∷◌, ◌++◌, Option, Some, refl, sym, subst, ◌∙◌, arith, append_assoc}
use Rattle.ntp_port.specs.{Port.Told, declared.queue_event.QueueEvent.QueueEvent}
use Rattle.ntp_port.specs.declared.queue_event.QueueEvent.TheVariants.{Held, Looked}
use Rattle.ntp_port.specs.{declared.queue_watch.QueueWatch.QueueWatch, Next.LooksAtQueue}
use Rattle.ntp_port.specs.{Freshness.takes, Freshness.WasLookedAt, Freshness.WasWatched, Queue.TellsEvents}
use Rattle.ntp_port.specs.Watch.{Watches, Counts, IsWaiting, IsCounted, longest_of}
use Rattle.ntp_port.specs.Fresh.{KeepsHistory, Stands, IsSeenFrom, Kept}
use Rattle.ntp_port.proofs.Seeing.{IsSeenFrom-same, IsSeenFrom-more, seen-in_call}
use Rattle.ntp_port.proofs.Watching.{looked-later, looked-by, kept-looked, kept-watched, watched-by}
use Rattle.ntp_port.proofs.{Keeping.StandsFor-Held, Keeping.StandsFor-Looked, Keeping.StandsFor-next, Waiting.quiet-append}

-- a look that saw these events, or none
Looks-saw : (a : Kept) (after : QueueWatch) (u : Option Told) (r : Option (List QueueEvent)) (events : List QueueEvent)
    (Said : List QueueEvent → ℕ → Type 0) → u ≡ a.told → longest_of after ≡ longest_of a.watch → takes events ≡ 0
    → ((history : List QueueEvent) → IsSeenFrom a.reading a.reading a.history r history (events ++ history))
    → ((history : List QueueEvent) → Stands a history
    → KeepsHistory after a.reading a.next_look (events ++ history) × Said (events ++ history) a.reading)
    → LooksAtQueue a (record a { watch = after; told = u; history = r }) Said
Looks-saw a after u r events Said told longest quiet seen stands = record {
  reading = refl;
  stale = refl;
  sweeps = refl;
  told = told;
  longest = longest;
  each = λ history stood.
      let x = stands history stood in
      record { events = events; quiet = quiet; stands = x.0; seen = seen history; looked = x.1 };
}

-- none
Looks-same : (k : Kept) (Said : List QueueEvent → ℕ → Type 0) → ((history : List QueueEvent) → Stands k history → Said history k.reading)
    → LooksAtQueue k k Said
Looks-same k Said looked = grind (arith, Looks-saw, IsSeenFrom-same)

pub Looks-none : (k : Kept) → LooksAtQueue k k (λ history now. Unit {0})
Looks-none k = Looks-same k (λ history now. Unit {0}) (λ history stands. tt)

-- none, where what is known is new enough
pub Looks-known : (k : Kept) (before : ℕ) → (at : ℕ) × (k.watch.known ≡ Some at) × (k.reading < at + before) → LooksAtQueue k k (WasLookedAt before)
Looks-known k before known =
    Looks-same k (WasLookedAt before) (λ history stands. kept-looked k.watch history k.reading before stands.watches stands.ordered known)

-- one, and perhaps another one
pub Looks-more : (a b c : Kept) (before : ℕ) → LooksAtQueue a b (WasLookedAt before) → LooksAtQueue b c (λ history now. Unit {0})
    → LooksAtQueue a c (WasLookedAt before)
Looks-more a b c before first second = record {
  reading = second.reading ∙ first.reading;
  stale = second.stale ∙ first.stale;
  sweeps = second.sweeps ∙ first.sweeps;
  told = second.told ∙ first.told;
  longest = second.longest ∙ first.longest;
  each = λ history stands.
      let x = first.each history stands in
      let y = second.each (x.events ++ history) x.stands in
      let same : y.events ++ (x.events ++ history) ≡ (y.events ++ x.events) ++ history = sym (append_assoc y.events x.events history) in
      record {
        events = y.events ++ x.events;
        quiet = quiet-append y.events x.events y.quiet x.quiet;
        stands = subst (λ xs. Stands c xs) same y.stands;
        seen = subst (λ xs. IsSeenFrom a.reading c.reading a.history c.history history xs) same
            (IsSeenFrom-more a.reading b.reading c.reading a.history b.history c.history history (x.events ++ history)
            (y.events ++ (x.events ++ history)) x.seen y.seen);
        looked = subst (λ xs. WasLookedAt before xs a.reading) same
            (looked-later a.reading before y.events (x.events ++ history) y.stands.ordered x.looked);
      };
}

-- what is said then, told in another way
Looks-as : (a b : Kept) (More Said : List QueueEvent → ℕ → Type 0) → ((history : List QueueEvent) → More history a.reading → Said history a.reading)
    → LooksAtQueue a b More → LooksAtQueue a b Said
Looks-as a b More Said tells looks = grind arith

-- a look need not be told of
pub Looks-some : (a b : Kept) (before : ℕ) → LooksAtQueue a b (WasLookedAt before) → LooksAtQueue a b (λ history now. Unit {0})
Looks-some a b before looks = Looks-as a b (WasLookedAt before) (λ history now. Unit {0}) (λ history looked. tt) looks

-- it may be older
pub Looks-older : (a b : Kept) (less before : ℕ) → less ≤ before → LooksAtQueue a b (WasLookedAt less) → LooksAtQueue a b (WasLookedAt before)
Looks-older a b less before older looks = grind (arith, Looks-as, looked-by)

-- one that told how many datagrams the queue held at most
pub Looks-count : (a : Kept) (after : QueueWatch) (u : Option Told) (r : Option (List QueueEvent)) (count : ℕ) → u ≡ a.told
    → longest_of after ≡ longest_of a.watch → (count ≡ 0) ⊎ (IsWaiting a.watch → ⊥)
    → ((history : List QueueEvent) → (count ≡ 0) ⊎ (IsWaiting a.watch → ⊥) → Watches a.watch history
    → Watches after (Held count a.reading ∷ history))
    → ((history : List QueueEvent) → Counts after (Held count a.reading ∷ history)) → TellsEvents a.history r (λ shown. Held count shown ∷ [])
    → LooksAtQueue a (record a { watch = after; told = u; history = r }) (WasLookedAt 0)
Looks-count a after u r count told longest alone watches counts tells =
    Looks-saw a after u r (Held count a.reading ∷ []) (WasLookedAt 0) told longest refl
    (seen-in_call a.reading a.history r (λ shown. Held count shown ∷ []) (λ shown known. refl) tells)
    (λ history stands. (StandsFor-Held a.watch after a.reading a.next_look count longest alone watches counts history stands, omega arith))

-- one that told nothing of it
pub Looks-unseen : (a : Kept) (u : Option Told) (r : Option (List QueueEvent)) → u ≡ a.told → TellsEvents a.history r (λ shown. Looked shown ∷ [])
    → LooksAtQueue a (record a { told = u; history = r }) (WasLookedAt 0)
Looks-unseen a u r told tells = Looks-saw a a.watch u r (Looked a.reading ∷ []) (WasLookedAt 0) told refl refl
    (seen-in_call a.reading a.history r (λ shown. Looked shown ∷ []) (λ shown known. refl) tells)
    (λ history stands. (StandsFor-Looked a.watch a.reading a.next_look history stands, omega arith))

-- none, where it is not time to
pub Looks-early : (k : Kept) → k.reading < k.next_look → LooksAtQueue k k (WasWatched (longest_of k.watch))
Looks-early k early = Looks-same k (WasWatched (longest_of k.watch)) (λ history stands. by history stands.looks_again)
  where
    by : (history : List QueueEvent) → (k.next_look ≡ 0) ⊎ WasWatched (longest_of k.watch) history k.next_look
        → WasWatched (longest_of k.watch) history k.reading
    by history e = grind (arith, watched-by)

-- one where it was time to, and when it may be looked again
pub Looks-in_time : (a b : Kept) (next : ℕ) → LooksAtQueue a b (WasLookedAt (longest_of a.watch / 10)) → IsCounted b.watch a.reading
    → next ≤ a.reading + 100000 → LooksAtQueue a (record b { next_look = next }) (WasWatched (longest_of a.watch))
Looks-in_time a b next looks counted soon = record {
  reading = looks.reading;
  stale = looks.stale;
  sweeps = looks.sweeps;
  told = looks.told;
  longest = looks.longest;
  each = λ history stands.
      let x = looks.each history stands in
      let known = x.events ++ history in
      let looked = subst (λ n. WasLookedAt (n / 10) known a.reading) (sym looks.longest) x.looked in
      let watched : (later : ℕ) → later ≤ a.reading + 100000 → WasWatched (longest_of b.watch) known later =
      λ later. kept-watched b.watch known a.reading later x.stands.watches x.stands.counts x.stands.ordered looked counted in
      record {
        events = x.events;
        quiet = x.quiet;
        stands = StandsFor-next b.watch b.reading b.next_look next known (inr (watched next soon)) x.stands;
        seen = x.seen;
        looked = subst (λ n. WasWatched n known a.reading) looks.longest (watched a.reading (omega arith));
      };
}
