-- A turn behind those whose datagrams were dropped.
use Rattle.std.proofs.Common.{inl, inr, ◌⊎◌, ◌≡◌, ℕ, zero, suc, Bool, true, false, Option, None, Some, Result, Ok, Err, List, [], ◌∷◌, ◌++◌, length, get_or, refl, sym, ap, subst, ◌∙◌, append-nil, length-append, arith}
use Rattle.std.specs.{Prelude.IfErr, Prelude.is_err, Prelude.flat_map, Prelude.option_map, Result.result_ok}
use Rattle.std.proofs.lemmas.Grind.{flat_map-append}
use Rattle.ntp_service.specs.{Registry.Registry, declared.observation.Arrival.Arrival, declared.observation.TurnOutcome.TurnOutcome}
use Rattle.ntp_reply.specs.Reference.{ReferenceState}
use Rattle.ntp_port.specs.{declared.port.PortCounts.PortCounts, declared.port.PortFault.PortFault, Serving.firsts}
use Rattle.ntp_port.specs.{declared.port.PortFault.TheVariants.Receive, Sending.turn_with}
use Rattle.ntp_port.specs.Port.{IncomingValue, Readings, TurnValue, no_turn, Told, Arrives, Begins, ReceiveTells, DropTells, TellsOn, DropsTurns, CountsMore, CountsReceive, Receives}
use Rattle.ntp_port.specs.Made.{Made, Missed, Received, turn_of, arrival_of}
use Rattle.ntp_port.specs.Serving.{Follows, Step, InTurn, Skipped, GivenUp, begun_in, made_of, dropped_in, PassesOver, AreBegun, Makes, TurnMakes}
use Rattle.ntp_port.proofs.{ManyTurns.Follows-nil, ManyTurns.Follows-append, ManyTurns.Makes-one, Dropping.CountsMore-nil, Dropping.CountsMore-append}

-- ---- one that was dropped
record DropsOne (t u : Option Told) : Type 0 where
  from : IncomingValue
  clock : Readings
  sends : Bool
  port : Follows (turn_with from clock sends ∷ []) [] t u

-- the datagram of a turn that no port tells
abbrev anything : IncomingValue
anything = record { address = record { 0 = [] }; port = 0; receipt = no_turn.clock []; octets = [] }

drops-one : (t u : Option Told) → DropTells t u true → DropsOne t u
drops-one None u p = record { from = anything; clock = no_turn.clock; sends = false; port = tt }
drops-one (Some old) None p = absurd p.2
drops-one (Some old) (Some new) p = by_turns old.coming refl p.2
  where
    by_turns : (coming : List TurnValue) → old.coming ≡ coming → Begins (get_or coming 0 no_turn) old new (Ok p.0) p.1
        → DropsOne (Some old) (Some new)
    by_turns [] here k = cc
    by_turns (turn ∷ rest) here k = by_arrival turn.arrival refl k.0
      where
        by_arrival : (x : Option IncomingValue) → turn.arrival ≡ x → Arrives x (Ok p.0) p.1 → DropsOne (Some old) (Some new)
        by_arrival None is a = cc
        by_arrival (Some d) is a =
            let whole : turn ≡ turn_with d turn.clock turn.sends = ap (λ z. record { arrival = z; clock = turn.clock; sends = turn.sends }) is in
            record {
              from = d;
              clock = turn.clock;
              sends = turn.sends;
              port = record {
                next = sym (ap (firsts no_turn 1) (here ∙ ap (λ z. z ∷ rest) whole));
                coming = ap (λ (z : Told). z.coming) k.1;
                sent = ap (λ (z : Told). z.sent) k.1 ∙ sym (append-nil old.sent);
              };
            }

-- ---- n datagrams dropped, one after another
record DropsMany (n : ℕ) (t u : Option Told) : Type 0 where
  steps : List Step
  none : flat_map made_of steps ≡ []
  many : length (flat_map dropped_in steps) ≡ n
  port : Follows (flat_map begun_in steps) [] t u

drops-many : (n : ℕ) (t u : Option Told) → DropsTurns n t u → DropsMany n t u
drops-many zero None u p = record { steps = []; none = refl; many = refl; port = tt }
drops-many zero (Some old) u p =
    subst (λ o. DropsMany 0 (Some old) o) (sym p) (record { steps = []; none = refl; many = refl; port = Follows-nil (Some old) })
drops-many (suc n) t u p =
    let one = drops-one t p.0 p.1 in
    let more = drops-many n p.0 u p.2 in
    record {
      steps = Skipped one.from one.clock one.sends ∷ more.steps;
      none = more.none;
      many = ap suc more.many;
      port = Follows-append (turn_with one.from one.clock one.sends ∷ []) (flat_map begun_in more.steps) [] [] t p.0 u one.port more.port;
    }

-- and then one that was made
passes-over : (m : Made) (last : Step) (n c d : ℕ) (t u v : Option Told) → made_of last ≡ m ∷ [] → dropped_in last ≡ [] → CountsMore c d n
    → DropsTurns n t u → Follows (begun_in last) (m ∷ []) u v → PassesOver (m ∷ []) c d t v
passes-over m last n c d t u v makes keeps counts drops follows =
    let before = drops-many n t u drops in
    let one : flat_map dropped_in (last ∷ []) ≡ [] = append-nil (dropped_in last) ∙ keeps in
    let begun : flat_map begun_in (before.steps ++ last ∷ []) ≡ flat_map begun_in before.steps ++ begun_in last =
    flat_map-append begun_in before.steps (last ∷ []) ∙ ap (λ l. flat_map begun_in before.steps ++ l) (append-nil (begun_in last)) in
    record {
      steps = before.steps ++ last ∷ [];
      all = flat_map-append made_of before.steps (last ∷ []) ∙ ap (λ l. l ++ flat_map made_of (last ∷ [])) before.none
          ∙ append-nil (made_of last) ∙ makes;
      counted = CountsMore-append c d d n 0 _
          (ap length (flat_map-append dropped_in before.steps (last ∷ []))
          ∙ length-append (flat_map dropped_in before.steps) (flat_map dropped_in (last ∷ []))
          ∙ omega (arith, before.many, ap length one)) counts (CountsMore-nil d);
      port = subst (λ l. Follows l (m ∷ []) t v) (sym begun)
          (Follows-append (flat_map begun_in before.steps) (begun_in last) [] (m ∷ []) t u v before.port follows);
    }

-- ---- what is told where nothing was begun
follows-none : (clock : Readings) (sends : Bool) (t u v : Option Told) → TellsOn t u → v ≡ u → Follows [] (Missed clock sends ∷ []) t v
follows-none clock sends t u v e f = grind (arith, append-nil)

-- ---- a turn that was made of what was received
pub record TakesTurn (A : Type 0) (reference : ReferenceState) (may : Bool) (r : Result Arrival PortFault) (buffer : List ℕ) (t v : Option Told)
    (a b c : PortCounts) (s q : Registry) (o : TurnOutcome) : Type 0 where
  pub before : Option Told
  pub turn : TurnMakes A reference r buffer before v b c s q o
  pub port : Makes may (turn.made ∷ []) a c t v

module _ (A : Type 0) (reference : ReferenceState) (r : Result Arrival PortFault) (buffer : List ℕ) (t u v : Option Told) (a b c : PortCounts)
    (s q : Registry) (o : TurnOutcome) (counts : CountsReceive a b (is_err r)) where
  taken : (may : Bool) (x : Option Told) (turn : TurnMakes A reference r buffer x v b c s q o) → AreBegun may (turn.made ∷ []) a.dropped b.dropped t v
      → TakesTurn A reference may r buffer t v a b c s q o
  taken may x turn begun =
      let same : b.dropped ≡ c.dropped = sym (ap (λ (k : PortCounts). k.dropped) turn.counts) in
      record {
        before = x;
        turn = turn;
        port = Makes-one may turn.made r a b c t v turn.arrived counts turn.counts
            (subst (λ n. AreBegun may (turn.made ∷ []) a.dropped n t v) same begun);
      }

  pub takes-turn : (may : Bool) → Receives may a.dropped b.dropped t u r buffer → IfErr r (λ fault. v ≡ u)
      → ((x : Option Told) → ReceiveTells x u r buffer → TurnMakes A reference r buffer x v b c s q o)
      → TakesTurn A reference may r buffer t v a b c s q o
  takes-turn false p idle turns =
      let turn = turns t p.1 in taken false t turn (p.0, turn.port)
  takes-turn true p idle turns = by_receive p.2
    where
      by_receive : (ReceiveTells p.0 u r buffer ⊎ (r ≡ Err Receive) × TellsOn p.0 u) → TakesTurn A reference true r buffer t v a b c s q o
      by_receive (inl told) =
          let turn = turns p.0 told in
          taken true p.0 turn (passes-over turn.made (InTurn turn.made) p.1.0 a.dropped b.dropped t p.0 v refl refl p.1.1 p.1.2 turn.port)
      by_receive (inr up) =
          let turn = turns None tt in taken true None turn (by_made turn.made (turn.arrived ∙ ap result_ok up.0))
        where
          by_made : (m : Made) → option_map arrival_of (turn_of m).arrival ≡ None → PassesOver (m ∷ []) a.dropped b.dropped t v
          by_made (Received x clock sends a noted) is = absurd (cc)
          by_made (Missed clock sends) is =
              passes-over (Missed clock sends) (GivenUp clock sends) p.1.0 a.dropped b.dropped t p.0 v refl refl p.1.1 p.1.2
              (follows-none clock sends p.0 u v up.1 (subst (λ x. IfErr x (λ fault. v ≡ u)) up.0 idle))
