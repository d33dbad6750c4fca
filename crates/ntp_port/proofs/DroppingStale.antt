-- Datagrams that are dropped, and what is passed on in the end.
use Rattle.std.proofs.Common.{◌≡◌, ℕ, ◌+◌, ◌-◌, ◌^◌, ◌≤◌, true, false, List, [], ◌∷◌, ◌++◌, Option, None, Result, refl, subst, ◌∙◌, arith, length-append}
use Rattle.ntp_service.specs.declared.observation.Arrival.{Arrival}
use Rattle.ntp_port.specs.{declared.port.PortFault.PortFault, declared.queue_event.QueueEvent.QueueEvent}
use Rattle.ntp_port.specs.{declared.queue_event.QueueEvent.TheVariants.Taken, declared.queue_watch.QueueWatch.QueueWatch}
use Rattle.ntp_port.specs.{declared.fresh_port.Next.Next, declared.fresh_port.Next.TheVariants.Stale}
use Rattle.ntp_port.specs.{Freshness.MayBeAnswered, Freshness.IsInOrder, Queue.TellsEvents, Port.Told, Port.TellsOn, Port.DropTells}
use Rattle.ntp_port.specs.Watch.{Watches, Counts, IsWaiting, longest_of}
use Rattle.ntp_port.specs.Fresh.{HandsOnTurn, Stands, InHand, Swept, AreStale, most_sweeps, counted_on, IsSeenFrom, PassesOn, Kept, PassesOnInTime}
use Rattle.ntp_port.specs.Next.{ComesTo, drops_in, TakesNext, Drops}
use Rattle.ntp_port.proofs.Seeing.{IsSeenFrom-same, IsSeenFrom-more, seen-in_call}
use Rattle.ntp_port.proofs.Keeping.{AreStale-append, in_hand-append, counted-append, counts-one, StandsFor-Taken}
use Rattle.ntp_port.proofs.Dropping.{TellsOn-same, DropsTurns-one, DropsTurns-append}

-- none, whatever call was made
Drops-still : (k : Kept) (u : Option Told) (r : Option (List QueueEvent)) → k.stale ≤ 2 ^ 64 - 1 → k.sweeps ≤ 2 ^ 64 - 1
    → TellsOn k.told u → ((history : List QueueEvent) → IsSeenFrom k.reading k.reading k.history r history history)
    → Drops 0 k (record k { told = u; history = r })
Drops-still k u r fits below on seen = record {
  count = 0;
  counted = omega (arith, fits);
  swept = omega (arith, below);
  turns = on;
  longest = refl;
  each = λ history stands.
      record { after = history; stands = stands; seen = seen history; dropped = []; stale = refl; as_many = refl; hands = refl };
}

pub Drops-none : (k : Kept) → k.stale ≤ 2 ^ 64 - 1 → k.sweeps ≤ 2 ^ 64 - 1 → Drops 0 k k
Drops-none k fits below = Drops-still k k.told k.history fits below (TellsOn-same k.told) (IsSeenFrom-same k.reading k.history)

pub Drops-unswept : (k : Kept) (u : Option Told) (r : Option (List QueueEvent)) → k.stale ≤ 2 ^ 64 - 1 → k.sweeps ≤ 2 ^ 64 - 1
    → DropTells k.told u false → TellsEvents k.history r (λ shown. []) → Drops 0 k (record k { told = u; history = r })
Drops-unswept k u r fits below drops tells = grind (arith, Drops-still, seen-in_call)

-- these, and then those
pub Drops-append : (m n all : ℕ) (a b c : Kept) → all ≡ m + n → Drops m a b → Drops n b c → Drops all a c
Drops-append m n all a b c sum first second = record {
  count = first.count + second.count;
  counted = counted-append a.stale b.stale c.stale first.count second.count first.counted second.counted;
  swept = omega (arith, sum, counted-append a.sweeps b.sweeps c.sweeps m n first.swept second.swept);
  turns = DropsTurns-append first.count second.count a.told b.told c.told first.turns second.turns;
  longest = second.longest ∙ first.longest;
  each = λ history stands.
      let x = first.each history stands in
      let y = second.each x.after x.stands in
      record {
        after = y.after;
        stands = y.stands;
        seen = IsSeenFrom-more a.reading b.reading c.reading a.history b.history c.history history x.after y.after x.seen y.seen;
        dropped = x.dropped ++ y.dropped;
        stale = AreStale-append (longest_of a.watch) history x.after y.after x.dropped y.dropped x.stale
            (subst (λ n. AreStale n x.after y.dropped y.after) first.longest y.stale);
        as_many = omega (arith, length-append x.dropped y.dropped, x.as_many, y.as_many);
        hands = omega (arith, sum, in_hand-append x.dropped y.dropped, x.hands, y.hands);
      };
}

-- one that was in hand, and was counted as such
Drops-taken : (a b : Kept) (s : ℕ) (datagram : List ℕ) → TakesNext a b Stale datagram → s ≡ counted_on b.sweeps 1
    → Drops 1 a (record b { sweeps = s })
Drops-taken a b s datagram takes swept = record {
  count = 1;
  counted = takes.counted;
  swept = omega (arith, takes.sweeps, swept);
  turns = DropsTurns-one a.told b.told takes.turns;
  longest = takes.longest;
  each = λ history stands.
      let x = takes.each history stands in
      record {
        after = x.0;
        stands = x.1;
        seen = x.2;
        dropped = InHand x.3.0 ∷ [];
        stale = (x.3.1, x.3.2);
        as_many = refl;
        hands = refl;
      };
}

-- one that was swept out
pub Drops-swept : (a : Kept) (after : QueueWatch) (v : ℕ) (u : Option Told) (r : Option (List QueueEvent))
    → longest_of after ≡ longest_of a.watch → IsWaiting a.watch
    → ((history : List QueueEvent) (at : ℕ) → Watches a.watch history → Watches after (Taken at ∷ history))
    → ((history : List QueueEvent) (at : ℕ) → Counts a.watch history → Counts after (Taken at ∷ history))
    → ((history : List QueueEvent) → Watches a.watch history → IsInOrder history → MayBeAnswered (longest_of a.watch) history a.reading → ⊥)
    → DropTells a.told u true → TellsEvents a.history r (λ shown. Taken shown ∷ []) → v ≡ counted_on a.stale 1
    → a.sweeps ≤ 2 ^ 64 - 1 → Drops 0 a (record a { watch = after; stale = v; told = u; history = r })
Drops-swept a after v u r longest waits watches counts not drops tells counted below = record {
  count = 1;
  counted = counted;
  swept = omega (arith, below);
  turns = DropsTurns-one a.told u drops;
  longest = longest;
  each = λ history stands. record {
    after = Taken a.reading ∷ history;
    stands = StandsFor-Taken a.watch after a.reading a.next_look longest watches counts history stands;
    seen = seen-in_call a.reading a.history r (λ shown. Taken shown ∷ []) (λ shown known. refl) tells history;
    dropped = Swept [] refl a.reading ∷ [];
    stale = ((not history stands.watches stands.ordered, counts-one a.watch history waits stands.counts), refl);
    as_many = refl;
    hands = refl;
  };
}

-- these, and one in hand, with what is swept out behind it
pub Drops-more : (n : ℕ) (a b c d : Kept) (s : ℕ) (datagram : List ℕ) → Drops n a b → TakesNext b c Stale datagram → s ≡ counted_on c.sweeps 1
    → Drops 0 (record c { sweeps = s }) d → Drops (n + 1) a d
Drops-more n a b c d s datagram many takes counted swept =
    let taken : Drops (n + 1) a (record c { sweeps = s }) =
    Drops-append n 1 (n + 1) a b (record c { sweeps = s }) refl many (Drops-taken b c s datagram takes counted) in
    Drops-append (n + 1) 0 (n + 1) a (record c { sweeps = s }) d (omega arith) taken swept

-- what goes on from a history behind those, and what is passed on there
abbrev PassesThere : Kept → Kept → ℕ → Option (Result Arrival PortFault) → List QueueEvent → Type 0
PassesThere b c from_hand result history = (after : List QueueEvent) × Stands c after
    × IsSeenFrom b.reading c.reading b.history c.history history after × PassesOn (longest_of b.watch) from_hand history result after

-- and then this is passed on
Passes-there : (n : ℕ) (a b c : Kept) (result : Option (Result Arrival PortFault)) (datagram : List ℕ) → n ≤ most_sweeps → Drops n a b
    → c.stale ≡ b.stale → c.sweeps ≡ b.sweeps → HandsOnTurn b.told c.told result datagram → longest_of c.watch ≡ longest_of b.watch
    → ((history : List QueueEvent) → Stands b history → PassesThere b c n result history) → PassesOnInTime a c result datagram
Passes-there n a b c result datagram few drops none same hands longest passes = (
  record {
    dropped = drops.count;
    counted = none ∙ drops.counted;
    from_hand = n;
    swept = same ∙ drops.swept;
    turns = (b.told, drops.turns, hands);
    longest = longest ∙ drops.longest;
    fresh = λ history stands.
        let x = drops.each history stands in
        let y = passes x.after x.stands in (
          y.0,
          y.1,
          record {
            dropped = x.dropped;
            between = x.after;
            stale = x.stale;
            passed_on = subst (λ w. PassesOn w n x.after result y.0) drops.longest y.3;
            as_many = x.as_many;
            hands = x.hands;
            seen = IsSeenFrom-more a.reading b.reading c.reading a.history b.history c.history history x.after y.0 x.seen y.2;
          },
        );
  },
  few,
)

-- what one take comes to
pub Passes-end : (n : ℕ) (a b c : Kept) (next : Next) (result : Option (Result Arrival PortFault)) (datagram : List ℕ) → n ≤ most_sweeps
    → Drops n a b → TakesNext b c next datagram → drops_in next ≡ 0 → HandsOnTurn b.told c.told result datagram
    → ((history after : List QueueEvent) → ComesTo (longest_of b.watch) history next after
    → PassesOn (longest_of b.watch) n history result after)
    → PassesOnInTime a c result datagram
Passes-end n a b c next result datagram few drops takes none hands passes =
    Passes-there n a b c result datagram few drops (omega (arith, drops.counted, takes.counted, none)) takes.sweeps hands takes.longest (λ history stands.
    let y = takes.each history stands in (y.0, y.1, y.2, passes history y.0 y.3))

-- or nothing, after the most
pub Passes-out : (n : ℕ) (a b : Kept) (datagram : List ℕ) → n ≡ most_sweeps → Drops n a b → PassesOnInTime a b None datagram
Passes-out n a b datagram most drops =
    Passes-there n a b b None datagram (omega (arith, most)) drops refl refl (TellsOn-same b.told) refl (λ history stands.
    (history, stands, IsSeenFrom-same b.reading b.history history, (([], refl, refl), λ few. absurd (omega (arith, most, few)))))
