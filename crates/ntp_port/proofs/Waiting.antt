-- Calls that pass on nothing, and then one more.
use Rattle.std.proofs.Common.{◌≡◌, ℕ, ◌+◌, ◌<◌, ◌⊎◌, inl, inr, List, [], ◌∷◌, ◌++◌, length, Option, None, Some, Result, Ok, Err, refl, sym, ap, subst, ◌∙◌, arith, append_assoc, length-append}
use Rattle.ntp_service.specs.declared.observation.Arrival.{Arrival}
use Rattle.ntp_port.specs.{declared.port.PortFault.PortFault, declared.queue_event.QueueEvent.QueueEvent, Watch.longest_of}
use Rattle.ntp_port.specs.declared.queue_event.QueueEvent.TheVariants.{Held, Looked, Taken, Read}
use Rattle.ntp_port.specs.Freshness.{takes, MayBeAnswered, AreCounted, WasWatched}
use Rattle.ntp_port.specs.Fresh.{Take, history_before, history_after, Dropped, InHand, Swept, history_dropped, IsStale, AreStale, in_hand, PassesOn, Kept, ReceivesFresh, PassesOnFresh}
use Rattle.ntp_port.proofs.{Seeing.IsSeenFrom-more, Dropping.DropsTurns-on, Dropping.DropsTurns-append}
use Rattle.ntp_port.proofs.Keeping.{AreStale-append, in_hand-append, counted-append}

takes-append : (xs ys : List QueueEvent) → takes (xs ++ ys) ≡ takes xs + takes ys
takes-append [] ys = omega arith
takes-append (Taken at ∷ xs) ys = omega (arith, takes-append xs ys)
takes-append (Held count at ∷ xs) ys = takes-append xs ys
takes-append (Looked at ∷ xs) ys = takes-append xs ys
takes-append (Read at ∷ xs) ys = takes-append xs ys

pub quiet-append : (xs ys : List QueueEvent) → takes xs ≡ 0 → takes ys ≡ 0 → takes (xs ++ ys) ≡ 0
quiet-append xs ys p q = omega (arith, takes-append xs ys, p, q)

-- a take before which more was seen
earlier : Take → (seen : List QueueEvent) → takes seen ≡ 0 → Take
earlier take seen quiet =
    record { seen = take.seen ++ seen; quiet = quiet-append take.seen seen take.quiet quiet; at = take.at; now = take.now }

history_before-earlier : (take : Take) (seen history : List QueueEvent) (quiet : takes seen ≡ 0)
    → history_before (earlier take seen quiet) history ≡ history_before take (seen ++ history)
unfolding earlier
history_before-earlier take seen history quiet = append_assoc take.seen seen history

history_after-earlier : (take : Take) (seen history : List QueueEvent) (quiet : takes seen ≡ 0)
    → history_after (earlier take seen quiet) history ≡ history_after take (seen ++ history)
unfolding earlier
history_after-earlier take seen history quiet = ap (λ xs. Read take.now ∷ (Taken take.at ∷ xs)) (append_assoc take.seen seen history)

-- one that was dropped, before which more was seen
earlier_dropped : Dropped → (seen : List QueueEvent) → takes seen ≡ 0 → Dropped
earlier_dropped (InHand take) seen quiet = InHand (earlier take seen quiet)
earlier_dropped (Swept events calm at) seen quiet = Swept (events ++ seen) (quiet-append events seen calm quiet) at

history_dropped-earlier : (one : Dropped) (seen history : List QueueEvent) (quiet : takes seen ≡ 0)
    → history_dropped (earlier_dropped one seen quiet) history ≡ history_dropped one (seen ++ history)
unfolding earlier_dropped
history_dropped-earlier one seen history quiet = grind (arith, history_after-earlier, append_assoc)

IsStale-earlier : (longest : ℕ) (one : Dropped) (seen history : List QueueEvent) (quiet : takes seen ≡ 0)
    → IsStale longest (seen ++ history) one → IsStale longest history (earlier_dropped one seen quiet)
unfolding earlier_dropped earlier
IsStale-earlier longest (InHand take) seen history quiet stale =
    let before = history_before-earlier take seen history quiet in (
      λ may. stale.0 (subst (λ xs. MayBeAnswered longest xs take.now) before may),
      subst (λ xs. WasWatched longest xs take.at) (sym before) stale.1,
    )
IsStale-earlier longest (Swept events calm at) seen history quiet stale =
    let before : (events ++ seen) ++ history ≡ events ++ (seen ++ history) = append_assoc events seen history in (
      λ may. stale.0 (subst (λ xs. MayBeAnswered longest xs at) before may),
      subst (AreCounted 1) (sym before) stale.1,
    )

in_hand-earlier : (one : Dropped) (dropped : List Dropped) (seen : List QueueEvent) (quiet : takes seen ≡ 0)
    → in_hand (earlier_dropped one seen quiet ∷ dropped) ≡ in_hand (one ∷ dropped)
unfolding earlier_dropped
in_hand-earlier one dropped seen quiet = grind arith

-- what is passed on, and whether the queue was found empty, where more was seen before
PassesOn-earlier : (longest : ℕ) (seen history after : List QueueEvent) (result : Option (Result Arrival PortFault)) → takes seen ≡ 0
    → PassesOn longest 0 (seen ++ history) result after → PassesOn longest 0 history result after
unfolding earlier
PassesOn-earlier longest seen history after None quiet (taken, asked) = (
  (taken.0 ++ seen, quiet-append taken.0 seen taken.1 quiet, taken.2 ∙ sym (append_assoc taken.0 seen history)),
  λ few.
      let x = asked few in
      (x.0, x.1 ++ seen, x.2, x.3 ∙ ap (λ xs. x.0 ++ Held 0 x.2 ∷ xs) (sym (append_assoc x.1 seen history))),
)
PassesOn-earlier longest seen history after (Some (Err fault)) quiet passed =
    (passed.0 ++ seen, quiet-append passed.0 seen passed.1 quiet, passed.2 ∙ sym (append_assoc passed.0 seen history))
PassesOn-earlier longest seen history after (Some (Ok arrival)) quiet passed = (
  earlier passed.0 seen quiet,
  subst (λ xs. MayBeAnswered longest xs passed.0.now) (sym (history_before-earlier passed.0 seen history quiet)) passed.1,
  passed.2 ∙ sym (history_after-earlier passed.0 seen history quiet),
)

-- what is dropped, and then passed on, where more was seen before
record Goes (longest : ℕ) (history after : List QueueEvent) (count from_hand : ℕ) (result : Option (Result Arrival PortFault)) : Type 0 where
  dropped : List Dropped
  between : List QueueEvent
  stale : AreStale longest history dropped between
  passed_on : PassesOn longest from_hand between result after
  as_many : length dropped ≡ count
  hands : in_hand dropped ≡ from_hand

Goes-earlier : (longest : ℕ) (seen history between after : List QueueEvent) (dropped : List Dropped)
    (result : Option (Result Arrival PortFault)) → takes seen ≡ 0 → AreStale longest (seen ++ history) dropped between
    → PassesOn longest (in_hand dropped) between result after → Goes longest history after (length dropped) (in_hand dropped) result
unfolding earlier
Goes-earlier longest seen history between after [] result quiet stale passed = record {
  dropped = [];
  between = history;
  stale = refl;
  passed_on = PassesOn-earlier longest seen history after result quiet (subst (λ xs. PassesOn longest 0 xs result after) stale passed);
  as_many = refl;
  hands = refl;
}
Goes-earlier longest seen history between after (one ∷ dropped) result quiet stale passed = record {
  dropped = earlier_dropped one seen quiet ∷ dropped;
  between = between;
  stale = (
    IsStale-earlier longest one seen history quiet stale.0,
    subst (λ xs. AreStale longest xs dropped between) (sym (history_dropped-earlier one seen history quiet)) stale.1,
  );
  passed_on = passed;
  as_many = refl;
  hands = in_hand-earlier one dropped seen quiet;
}

PassesOn-more : (longest m n : ℕ) (history after : List QueueEvent) (result : Option (Result Arrival PortFault))
    → PassesOn longest n history result after → PassesOn longest (m + n) history result after
PassesOn-more longest m n history after result passed = grind arith

-- nothing was passed on, and then this
ReceivesFresh-more : (a b c : Kept) (m n i j : ℕ) (h k l : List QueueEvent) (result : Option (Result Arrival PortFault))
    → longest_of b.watch ≡ longest_of a.watch → ReceivesFresh a b m i h k None → ReceivesFresh b c n j k l result
    → ReceivesFresh a c (m + n) (i + j) h l result
ReceivesFresh-more a b c m n i j h k l result longest first second =
    let nothing = first.passed_on.0 in
    let stale : AreStale (longest_of a.watch) (nothing.0 ++ first.between) second.dropped second.between =
    subst (λ xs. AreStale (longest_of a.watch) xs second.dropped second.between) nothing.2
    (subst (λ w. AreStale w k second.dropped second.between) longest second.stale) in
    let goes = Goes-earlier (longest_of a.watch) nothing.0 first.between second.between l second.dropped result nothing.1 stale
    (subst (λ n. PassesOn (longest_of a.watch) n second.between result l) (sym second.hands)
    (subst (λ w. PassesOn w j second.between result l) longest second.passed_on)) in
    record {
      dropped = first.dropped ++ goes.dropped;
      between = goes.between;
      stale = AreStale-append (longest_of a.watch) h first.between goes.between first.dropped goes.dropped first.stale goes.stale;
      passed_on = PassesOn-more (longest_of a.watch) i j goes.between l result
          (subst (λ n. PassesOn (longest_of a.watch) n goes.between result l) second.hands goes.passed_on);
      as_many = omega (arith, length-append first.dropped goes.dropped, first.as_many, goes.as_many, second.as_many);
      hands = omega (arith, in_hand-append first.dropped goes.dropped, first.hands, goes.hands, second.hands);
      seen = IsSeenFrom-more a.reading b.reading c.reading a.history b.history c.history h k l first.seen second.seen;
    }

Passes-more : (a b c : Kept) (result : Option (Result Arrival PortFault)) (datagram later : List ℕ) → PassesOnFresh a b None datagram
    → PassesOnFresh b c result later → PassesOnFresh a c result later
Passes-more a b c result datagram later first second = record {
  dropped = first.dropped + second.dropped;
  counted = counted-append a.stale b.stale c.stale first.dropped second.dropped first.counted second.counted;
  from_hand = first.from_hand + second.from_hand;
  swept = counted-append a.sweeps b.sweeps c.sweeps first.from_hand second.from_hand first.swept second.swept;
  turns = (
    second.turns.0,
    DropsTurns-append first.dropped second.dropped a.told first.turns.0 second.turns.0 first.turns.1
        (DropsTurns-on second.dropped first.turns.0 b.told second.turns.0 first.turns.2 second.turns.1),
    second.turns.2,
  );
  longest = second.longest ∙ first.longest;
  fresh = λ history stands.
      let x = first.fresh history stands in
      let y = second.fresh x.0 x.1 in
      let more = ReceivesFresh-more a b c first.dropped second.dropped first.from_hand second.from_hand history x.0 y.0 result first.longest x.2 y.2 in
      (y.0, y.1, more);
}

-- calls were made and passed nothing on; before the first call all is as it was
abbrev pub HasWaited : ℕ → Kept → Kept → List ℕ → Type 0
HasWaited count old new datagram = ((count ≡ 0) × (old ≡ new)) ⊎ PassesOnFresh old new None datagram

-- and then this
pub Passes-after : (count : ℕ) (a b c : Kept) (result : Option (Result Arrival PortFault)) (datagram later : List ℕ) → HasWaited count a b datagram
    → PassesOnFresh b c result later → PassesOnFresh a c result later
Passes-after count a b c result datagram later (inl none) second = subst (λ k. PassesOnFresh k c result later) (sym none.1) second
Passes-after count a b c result datagram later (inr first) second = Passes-more a b c result datagram later first second

-- nothing, after some
pub Passes-nothing : (count : ℕ) (a b : Kept) (datagram : List ℕ) → 0 < count → HasWaited count a b datagram → PassesOnFresh a b None datagram
Passes-nothing count a b datagram some h = grind (arith, inl, inr)
