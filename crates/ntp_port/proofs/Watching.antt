-- What is kept of a history tells after which moment what comes next came.
use Rattle.std.proofs.Common.{◌≡◌, ℕ, suc, ◌+◌, ◌*◌, ◌/◌, ◌<◌, ◌≤◌, inl, inr, Bool, true, false, List, [], ◌∷◌, ◌++◌, Some, refl, sym, ap, subst, ◌∙◌, arith}
use Rattle.std.specs.Prelude.{nat_le, ◌&&◌, if◌then◌else◌, All, Contains}
use Rattle.std.proofs.lemmas.Bool.{le-leb, lt-leb, leb-true}
use Rattle.std.proofs.lemmas.List.Elements.{All-contains, Contains-append_right}
use Rattle.ntp_port.specs.{declared.queue_event.QueueEvent.QueueEvent, declared.queue_watch.QueueWatch.QueueWatch}
use Rattle.ntp_port.specs.declared.queue_event.QueueEvent.TheVariants.{Held, Looked, Taken, Read}
use Rattle.ntp_port.specs.Freshness.{takes, moment_of, IsInOrder, MayBeAnswered, WasLookedAt, WasCounted, WasWatched}
use Rattle.ntp_port.specs.Watch.{Watches, Counts, IsCounted, longest_of, known_after, kept_after}

-- what is taken next, after `more` more takes, came after this moment
CameAfterMore : ℕ → List QueueEvent → ℕ → Type 0
CameAfterMore more history at =
    (since : List QueueEvent) × (before : List QueueEvent) × (count : ℕ) × (history ≡ since ++ Held count at ∷ before) × (count ≤ takes since + more)

-- an event before it changes nothing of it
came-earlier : (more less : ℕ) (event : QueueEvent) (history : List QueueEvent) (at : ℕ)
    → ((since : List QueueEvent) → takes since + more ≤ takes (event ∷ since) + less) → CameAfterMore more history at
    → CameAfterMore less (event ∷ history) at
unfolding CameAfterMore
came-earlier more less event history at counts came =
    (event ∷ came.0, came.1, came.2, ap (λ xs. event ∷ xs) came.3, omega (arith, came.4, counts came.0))

known-came_look : (b : Bool) (more count here : ℕ) (history : List QueueEvent) (at : ℕ) → nat_le count more ≡ b
    → (known_after more history ≡ Some at → CameAfterMore more history at) → (if b then Some here else known_after more history) ≡ Some at
    → CameAfterMore more (Held count here ∷ history) at
unfolding CameAfterMore
known-came_look true more count here history at within rest is =
    let same : here ≡ at = cc in ([], history, count, ap (λ n. Held count n ∷ history) same, omega (arith, leb-true count more within))
known-came_look false more count here history at within rest is =
    came-earlier more more (Held count here) history at (λ since. omega arith) (rest is)

known-came : (more : ℕ) (history : List QueueEvent) (at : ℕ) → known_after more history ≡ Some at → CameAfterMore more history at
known-came more [] at is = absurd (cc)
known-came more (Held count here ∷ history) at is =
    known-came_look (nat_le count more) more count here history at refl (known-came more history at) is
known-came more (Looked here ∷ history) at is =
    came-earlier more more (Looked here) history at (λ since. omega arith) (known-came more history at is)
known-came more (Taken here ∷ history) at is =
    came-earlier (suc more) more (Taken here) history at (λ since. omega arith) (known-came (suc more) history at is)
known-came more (Read here ∷ history) at is = came-earlier more more (Read here) history at (λ since. omega arith) (known-came more history at is)

-- and none that is so known is later than the one that is told
Latest : ℕ → List QueueEvent → ℕ → Type 0
Latest more history at = (last : ℕ) × (known_after more history ≡ Some last) × (at ≤ last)

known-latest_look : (b : Bool) (more here : ℕ) (history : List QueueEvent) (at : ℕ) → at ≤ here → Latest more history at
    → (last : ℕ) × ((if b then Some here else known_after more history) ≡ Some last) × (at ≤ last)
unfolding Latest
known-latest_look true more here history at earlier rest = (here, refl, earlier)
known-latest_look false more here history at earlier rest = rest

known-latest : (more : ℕ) (since before : List QueueEvent) (count at : ℕ) → IsInOrder (since ++ Held count at ∷ before)
    → count ≤ takes since + more → Latest more (since ++ Held count at ∷ before) at
unfolding Latest
known-latest more [] before count at ordered enough =
    (at, ap (λ b. if b then Some at else known_after more before) (le-leb count more (omega (arith, enough))), omega arith)
known-latest more (Held other here ∷ since) before count at ordered enough =
    let there = Contains-append_right since (Held count at ∷ before) (Held count at) (0, omega arith, refl) in
    let earlier = All-contains (λ older. moment_of older ≤ here) (since ++ Held count at ∷ before) (Held count at) ordered.0 there in
    known-latest_look (nat_le other more) more here (since ++ Held count at ∷ before) at earlier
    (known-latest more since before count at ordered.1 enough)
known-latest more (Looked here ∷ since) before count at ordered enough = known-latest more since before count at ordered.1 enough
known-latest more (Taken here ∷ since) before count at ordered enough =
    known-latest (suc more) since before count at ordered.1 (omega (arith, enough))
known-latest more (Read here ∷ since) before count at ordered enough = known-latest more since before count at ordered.1 enough

-- what is kept, where no more is taken
and-false : (b : Bool) → (b && false) ≡ false
and-false b = grind arith

kept-none_by : (watch : QueueWatch) (n : ℕ) → watch.waiting ≡ n → kept_after watch 0 ≡ watch.known
kept-none_by watch n e = grind (arith, lt-leb, and-false)

kept-none : (watch : QueueWatch) → kept_after watch 0 ≡ watch.known
kept-none watch = kept-none_by watch watch.waiting refl

-- what is known tells what may be answered, and the other way
pub fresh-known : (watch : QueueWatch) (history : List QueueEvent) (now : ℕ) → Watches watch history
    → (at : ℕ) × (watch.known ≡ Some at) × (now < at + longest_of watch) → MayBeAnswered (longest_of watch) history now
unfolding CameAfterMore
fresh-known watch history now watches known =
    let came : CameAfterMore 0 history known.0 = known-came 0 history known.0 (watches 0 ∙ kept-none watch ∙ known.1) in
    (known.0, (came.0, came.1, came.2, came.3, omega (arith, came.4)), known.2)

pub known-fresh : (watch : QueueWatch) (history : List QueueEvent) (now : ℕ) → Watches watch history → IsInOrder history
    → MayBeAnswered (longest_of watch) history now → (at : ℕ) × (watch.known ≡ Some at) × (now < at + longest_of watch)
unfolding Latest
known-fresh watch history now watches ordered may =
    let came = may.1 in
    let last = known-latest 0 came.0 came.1 came.2 may.0 (subst IsInOrder came.3 ordered) (omega (arith, came.4)) in (
      last.0,
      sym (kept-none watch) ∙ sym (watches 0) ∙ ap (known_after 0) came.3 ∙ last.1,
      omega (arith, last.2, may.2),
    )

-- ---- when it was looked at the queue
All-rest : (b : ℕ) (e : QueueEvent) (history : List QueueEvent) → All (λ x. moment_of x ≤ b) (e ∷ history) → All (λ x. moment_of x ≤ b) history
All-rest b e history all k d below = all (suc k) d (omega (arith, below))

All-here : (b : ℕ) (e : QueueEvent) (history : List QueueEvent) → All (λ x. moment_of x ≤ b) (e ∷ history) → moment_of e ≤ b
All-here b e history all = all 0 e (omega arith)

-- a look is no later than all that was seen
looked-within : (b c before : ℕ) (history : List QueueEvent) → All (λ x. moment_of x ≤ b) history → WasLookedAt before history c → c ≤ b + before
looked-within b c before [] all looked = absurd looked
looked-within b c before (Held count at ∷ history) all looked = omega (arith, looked, All-here b (Held count at) history all)
looked-within b c before (Looked at ∷ history) all looked = omega (arith, looked, All-here b (Looked at) history all)
looked-within b c before (Taken at ∷ history) all looked = looked-within b c before history (All-rest b (Taken at) history all) looked
looked-within b c before (Read at ∷ history) all looked = looked-within b c before history (All-rest b (Read at) history all) looked

-- one event more leaves it so
pub looked-more : (c before : ℕ) (e : QueueEvent) (history : List QueueEvent) → IsInOrder (e ∷ history) → WasLookedAt before history c
    → WasLookedAt before (e ∷ history) c
looked-more c before (Held count at) history ordered looked = looked-within at c before history ordered.0 looked
looked-more c before (Looked at) history ordered looked = looked-within at c before history ordered.0 looked
looked-more c before (Taken at) history ordered looked = looked
looked-more c before (Read at) history ordered looked = looked

-- and some more
pub looked-later : (c before : ℕ) (events history : List QueueEvent) → IsInOrder (events ++ history) → WasLookedAt before history c
    → WasLookedAt before (events ++ history) c
looked-later c before [] history ordered looked = looked
looked-later c before (e ∷ events) history ordered looked =
    looked-more c before e (events ++ history) ordered (looked-later c before events history ordered.1 looked)

-- at another moment
pub looked-by : (c d less before : ℕ) (history : List QueueEvent) → d + less ≤ c + before → WasLookedAt less history c → WasLookedAt before history d
looked-by c d less before history e f = grind arith

-- what is known was seen by a look
known-within : (more b : ℕ) (history : List QueueEvent) (at : ℕ) → known_after more history ≡ Some at → All (λ x. moment_of x ≤ b) history → at ≤ b
unfolding CameAfterMore
known-within more b history at is all =
    let came : CameAfterMore more history at = known-came more history at is in
    let there = Contains-append_right came.0 (Held came.2 at ∷ came.1) (Held came.2 at) (0, omega arith, refl) in
    All-contains (λ x. moment_of x ≤ b) history (Held came.2 at) all (subst (λ xs. Contains xs (Held came.2 at)) (sym came.3) there)

known-looked : (more c before : ℕ) (history : List QueueEvent) (at : ℕ) → known_after more history ≡ Some at → IsInOrder history
    → c ≤ at + before → WasLookedAt before history c
known-looked more c before [] at is ordered near = absurd (cc)
known-looked more c before (Held count here ∷ history) at is ordered near =
    by (nat_le count more) refl
  where
    by : (b : Bool) → nat_le count more ≡ b → c ≤ here + before
    by true within =
        let same : here ≡ at = cc in omega (arith, near, same)
    by false within =
        let rest : known_after more history ≡ Some at = sym (ap (λ (b : Bool). if b then Some here else known_after more history) within) ∙ is in
        omega (arith, near, known-within more here history at rest ordered.0)
known-looked more c before (Looked here ∷ history) at is ordered near = omega (arith, near, known-within more here history at is ordered.0)
known-looked more c before (Taken here ∷ history) at is ordered near = known-looked (suc more) c before history at is ordered.1 near
known-looked more c before (Read here ∷ history) at is ordered near = known-looked more c before history at is ordered.1 near

pub kept-looked : (watch : QueueWatch) (history : List QueueEvent) (now before : ℕ) → Watches watch history → IsInOrder history
    → (at : ℕ) × (watch.known ≡ Some at) × (now < at + before) → WasLookedAt before history now
kept-looked watch history now before watches ordered known =
    known-looked 0 now before history known.0 (watches 0 ∙ kept-none watch ∙ known.1) ordered (omega (arith, known.2))

-- ---- when it was counted
-- the last look is no later than the newest event
looked-newest : (c before : ℕ) (e : QueueEvent) (history : List QueueEvent) → IsInOrder (e ∷ history) → WasLookedAt before (e ∷ history) c
    → c ≤ moment_of e + before
looked-newest c before (Held count at) history ordered looked = looked
looked-newest c before (Looked at) history ordered looked = looked
looked-newest c before (Taken at) history ordered looked = looked-within at c before history ordered.0 looked
looked-newest c before (Read at) history ordered looked = looked-within at c before history ordered.0 looked

-- what is kept tells that it was, where that had to be known
kept-counted : (watch : QueueWatch) (history : List QueueEvent) (now next : ℕ) → Watches watch history → Counts watch history → IsInOrder history
    → WasLookedAt (longest_of watch / 10) history now → IsCounted watch now → next ≤ now + 100000
    → WasCounted (longest_of watch / 10 * 3 + 100000) history next
unfolding CameAfterMore
kept-counted watch [] now next watches counts ordered looked counted soon = absurd looked
kept-counted watch (e ∷ history) now next watches counts ordered looked (inl waits) soon =
    let x = counts waits in
    let newest = looked-newest now (longest_of watch / 10) e history ordered looked in
    ([], e, history, refl, omega (arith, newest, soon), (x.0, x.1, x.2, watch.seen, x.3, omega (arith, x.4)))
kept-counted watch (e ∷ history) now next watches counts ordered looked (inr known) soon =
    let came : CameAfterMore 0 (e ∷ history) known.0 = known-came 0 (e ∷ history) known.0 (watches 0 ∙ kept-none watch ∙ known.1) in
    (came.0, Held came.2 known.0, came.1, came.3, omega (arith, known.2, soon), ([], came.1, came.2, known.0, refl, omega arith))

pub kept-watched : (watch : QueueWatch) (history : List QueueEvent) (now next : ℕ) → Watches watch history → Counts watch history → IsInOrder history
    → WasLookedAt (longest_of watch / 10) history now → IsCounted watch now → next ≤ now + 100000 → WasWatched (longest_of watch) history next
kept-watched watch history now next watches counts ordered looked counted soon = grind (arith, looked-by, kept-counted)

-- one event more leaves it so
pub watched-more : (longest c : ℕ) (e : QueueEvent) (history : List QueueEvent) → IsInOrder (e ∷ history) → WasWatched longest history c
    → WasWatched longest (e ∷ history) c
watched-more longest c e history ordered watched =
    let x = watched.1 in
    (looked-more c (longest / 10 + 100000) e history ordered watched.0, (e ∷ x.0, x.1, x.2, ap (λ xs. e ∷ xs) x.3, x.4, x.5))

-- and so it was at an earlier moment
pub watched-by : (longest c d : ℕ) (history : List QueueEvent) → d ≤ c → WasWatched longest history c → WasWatched longest history d
watched-by longest c d history by watched = grind (arith, looked-by)
