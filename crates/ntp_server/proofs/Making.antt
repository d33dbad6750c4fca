-- One turn after another.
use Rattle.std.proofs.Common.{◌≡◌, ℕ, ◌+◌, ◌-◌, ◌≤◌, Bool, Option, Some, Result, List, [], ◌∷◌, ◌++◌, length, map, refl, sym, ap, ◌∙◌, subst, append-nil, length-append, arith, rules}
use Rattle.std.specs.Prelude.{option_map, IsSome, IfSome, slice_get}
use Rattle.std.specs.{Result.result_ok}
use Rattle.std.proofs.lemmas.List.{append_assoc, map-append, length-map}
use Rattle.std.proofs.{lemmas.List.Elements.filter-append, lemmas.List.Elements.filter_map-append, lemmas.Grind.flat_map-append}
use Rattle.ntp_packet.specs.declared.moment.Moment.{Moment}
use Rattle.ntp_reply.specs.Reference.{ReferenceState}
use Rattle.ntp_service.specs.{declared.observation.Arrival.Arrival, declared.observation.Observation.TheVariants.Turn}
use Rattle.ntp_service.specs.declared.observation.TurnOutcome.{TurnOutcome}
use Rattle.ntp_service.specs.{InTurn.InTurn, Headline.Tells}
use Rattle.ntp_service.proofs.PublicLaws.{InTurn-append, Tells-append}
use Rattle.ntp_port.specs.{declared.port.PortCounts.PortCounts, declared.port.PortFault.PortFault, Serving.Makes}
use Rattle.ntp_port.specs.Port.{failed_calls, counted_send, CountsMore}
use Rattle.ntp_port.specs.Made.{Made, turn_of, arrival_of, happened_in_turn, is_unsent, turn_outcome}
use Rattle.ntp_port.proofs.PublicLaws.{CountsMore-nil, CountsMore-append, TakesTurn, Makes-nil, Makes-append, Makes-few}
use Rattle.ntp_admin.specs.CommandsFile.{most_line_octets, line_observations, happened_at_lines}
use Rattle.ntp_server.specs.declared.server.Server.{Server}
use Rattle.ntp_server.specs.Rounds.{Round, PartsTell, ServesRounds, turns_in, made_in, waits_in, receipt_in, asked_in}
use Rattle.ntp_server.specs.Steps.{Looks, Orders, Starts, Waits, MakesTurn}
use Rattle.ntp_server.proofs.Looking.{Orders-append}

-- ---- a turn behind a wait and a look
-- when the datagram of a turn came, as it was received
came : (made : Made) (r : Result Arrival PortFault) → option_map arrival_of (turn_of made).arrival ≡ result_ok r
    → option_map (λ a. a.receipt) (result_ok r) ≡ receipt_in made
came made r arrived = grind arith

pub Makes-turn : {P C R O A Q : Type 0} (t : PartsTell P C R O) (prompt may gave : Bool) (asked : Option Moment)
    (Shows : Q → Q → Option Moment → Type 0) (earlier halfway later : Q) (p q r s : Server P C R O A) (reference : ReferenceState)
    (received : Result Arrival PortFault) (buffer : List ℕ) (outcome : TurnOutcome) → s.applied ≡ r.applied → s.commands ≡ r.commands
    → Waits p q t (InTurn Shows earlier halfway) prompt → Looks q r t asked gave → asked ≡ option_map (λ a. a.receipt) (result_ok received)
    → r.reference ≡ q.reference → t.asked r.reference s.reference asked reference → r.port ≡ q.port
    → TakesTurn A reference may received buffer (t.port p.port) (t.port s.port) (t.counts p.port) (t.counts r.port) (t.counts s.port) r.service
    s.service outcome
    → t.heard r.observer s.observer (Turn outcome) → Shows halfway later asked
    → MakesTurn p s t (InTurn Shows earlier later) prompt may
Makes-turn t prompt may gave asked Shows earlier halfway later p q r s reference received buffer outcome applied commands w l receipt same asks port taken
    heard shown =
    let turn = taken.turn in
    let right : asked ≡ receipt_in turn.made = receipt ∙ came turn.made received turn.arrived in
    let round : Round = record { applied = q.applied; given = l.given; taken = l.taken; turn = Some (reference, turn.made) } in
    let lines = line_observations most_line_octets q.applied l.taken in
    let happened = happened_at_lines most_line_octets l.taken in
    record {
      earlier = w.rounds;
      round = round;
      reference = reference;
      made = turn.made;
      no_turn = w.no_turn;
      waiting = w.waiting;
      turn = refl;
      one_look = w.one_look;
      orders = Orders-append t w.rounds (round ∷ []) p q s w.orders (record {
        due = (refl, l.lines, applied ∙ l.counted);
        commands = (
          s.commands,
          subst (λ a. t.looked q.commands s.commands a l.given) right (subst (λ c. t.looked q.commands c asked l.given) (sym commands) l.commands),
          refl,
        );
        observed = subst (λ os. InTurn t.heard q.observer s.observer os) (sym (append-nil (lines ++ Turn (turn_outcome turn.made) ∷ [])))
            (InTurn-append t.heard lines (Turn (turn_outcome turn.made) ∷ []) q.observer r.observer s.observer l.observed
            (s.observer, subst (λ o. t.heard r.observer s.observer (Turn o)) turn.comes_to heard, refl));
        tells = λ history stands.
            subst (λ es. Tells history es s.service) (sym (append-nil (happened ++ happened_in_turn reference turn.made)))
            (Tells-append history happened (happened_in_turn reference turn.made) r.service s.service (l.tells history stands)
            (λ stood. turn.tells _ stood));
      });
      states = InTurn-append _ w.rounds (round ∷ []) p.reference q.reference s.reference w.tended (
        s.reference,
        subst (λ a. t.asked q.reference s.reference a reference) right (subst (λ x. t.asked x s.reference asked reference) same asks),
        refl,
      );
      waits = subst (λ n. CountsMore (t.counts p.port).idle_waits n (length w.rounds))
          (sym (ap (λ (k : PortCounts). k.idle_waits) (turn.counts ∙ ap (λ port. counted_send (is_unsent turn.made) (t.counts port)) port)))
          w.waited;
      reported = subst (λ xs. InTurn Shows earlier later xs) (sym (map-append asked_in w.rounds (round ∷ [])))
          (InTurn-append Shows _ _ earlier halfway later w.reported (later, subst (λ a. Shows halfway later a) right shown, refl));
      port = taken.port;
    }

-- ---- one turn more
-- behind the start
pub Serves-none : {P C R O A : Type 0} (t : PartsTell P C R O) (prompt may : Bool) (Shown : List (Option Moment) → Type 0) (p q : Server P C R O A)
    → Shown [] → q.port ≡ p.port → q.reference ≡ p.reference → Starts p q t
    → ServesRounds p q t Shown prompt may 0
Serves-none t prompt may Shown p q shown port reference s =
    let all : s.start ++ [] ≡ s.start = append-nil s.start in
    let orders = subst (λ l. Orders p q t l) (sym all) s.orders in
    record {
      start = s.start;
      at_start = s.at_start;
      gave = s.gave;
      until = s.until;
      rounds = [];
      each = refl;
      last = tt;
      one_look = λ is. refl;
      due = orders.due;
      commands = orders.commands;
      states = reference;
      waits = subst (λ x. CountsMore (t.counts p.port).idle_waits (t.counts x).idle_waits 0) (sym port) (CountsMore-nil (t.counts p.port).idle_waits);
      reported = shown;
      port = subst (λ x. Makes may [] (t.counts p.port) (t.counts x) (t.port p.port) (t.port x)) (sym port) (Makes-nil may (t.counts p.port) (t.port p.port));
      observed = orders.observed;
      tells = orders.tells;
    }

-- the last of a list
last-of : {X : Type 0} (xs : List X) (x : X) → slice_get (xs ++ x ∷ []) (length (xs ++ x ∷ []) - 1) ≡ Some x
last-of {X = X} xs x =
    let end : length (xs ++ x ∷ []) - 1 ≡ length xs = omega (arith, length-append xs (x ∷ [])) in
    ap (λ n. slice_get (xs ++ x ∷ []) n) end ∙ there xs
  where
    there : (ys : List X) → slice_get (ys ++ x ∷ []) (length ys) ≡ Some x
    there [] = refl
    there (y ∷ ys) = there ys

-- rounds behind others; the last one alone has a turn
module _ (rounds earlier : List Round) (round : Round) (reference : ReferenceState) (made : Made) (no_turn : turns_in earlier ≡ [])
    (waiting : waits_in earlier ≡ earlier) (turn : round.turn ≡ Some (reference, made)) where
  abbrev with_turn : List Round
  with_turn = rounds ++ (earlier ++ round ∷ [])

  turns-more : turns_in with_turn ≡ turns_in rounds ++ (reference, made) ∷ []
  turns-more = grind (arith, filter_map-append, rounds, earlier, round, no_turn)

  made-more : made_in with_turn ≡ made_in rounds ++ made ∷ []
  made-more = ap (map (λ x. x.1)) turns-more ∙ map-append (λ x. x.1) (turns_in rounds) ((reference, made) ∷ [])

  waits-more : waits_in with_turn ≡ waits_in rounds ++ earlier
  waits-more = search (rules, filter-append, rounds, earlier, round)

  last-more : IfSome (slice_get with_turn (length with_turn - 1)) (λ r. IsSome r.turn)
  last-more =
      subst (λ l. IfSome (slice_get l (length l - 1)) (λ r. IsSome r.turn)) (append_assoc rounds earlier (round ∷ []))
      (subst (λ o. IfSome o (λ r. IsSome r.turn)) (sym (last-of (rounds ++ earlier) round)) (subst IsSome (sym turn) refl))

pub Serves-turn : {P C R O A Q : Type 0} (t : PartsTell P C R O) (prompt may : Bool) (n : ℕ) (Shows : Q → Q → Option Moment → Type 0)
    (earlier halfway later : Q) (p q r : Server P C R O A)
    → ServesRounds p q t (InTurn Shows earlier halfway) prompt may n → MakesTurn q r t (InTurn Shows halfway later) prompt may
    → ServesRounds p r t (InTurn Shows earlier later) prompt may (n + 1)
Serves-turn t prompt may n Shows earlier halfway later p q r s m =
    let more = m.earlier ++ m.round ∷ [] in
    let turns : turns_in (s.rounds ++ more) ≡ turns_in s.rounds ++ (m.reference, m.made) ∷ []
    = turns-more s.rounds m.earlier m.round m.reference m.made m.no_turn m.waiting m.turn in
    let made : made_in (s.rounds ++ more) ≡ made_in s.rounds ++ m.made ∷ []
    = made-more s.rounds m.earlier m.round m.reference m.made m.no_turn m.waiting m.turn in
    let waits : waits_in (s.rounds ++ more) ≡ waits_in s.rounds ++ m.earlier
    = waits-more s.rounds m.earlier m.round m.reference m.made m.no_turn m.waiting m.turn in
    let many : length (waits_in (s.rounds ++ more)) ≡ length (waits_in s.rounds) + length m.earlier
    = ap length waits ∙ length-append (waits_in s.rounds) m.earlier in
    let orders = subst (λ l. Orders p r t l) (append_assoc s.start s.rounds more)
    (Orders-append t (s.start ++ s.rounds) more p q r (record { due = s.due; commands = s.commands; observed = s.observed; tells = s.tells }) m.orders) in
    record {
      start = s.start;
      at_start = s.at_start;
      gave = s.gave;
      until = s.until;
      rounds = s.rounds ++ more;
      each = ap length turns ∙ length-append (turns_in s.rounds) ((m.reference, m.made) ∷ []) ∙ ap (λ l. l + 1) s.each;
      last = last-more s.rounds m.earlier m.round m.reference m.made m.no_turn m.waiting m.turn;
      one_look = λ is. waits ∙ ap (λ l. l ++ m.earlier) (s.one_look is) ∙ m.one_look is;
      due = orders.due;
      commands = orders.commands;
      states = InTurn-append _ s.rounds more p.reference q.reference r.reference s.states m.states;
      waits = CountsMore-append (t.counts p.port).idle_waits (t.counts q.port).idle_waits (t.counts r.port).idle_waits (length (waits_in s.rounds))
          (length m.earlier) _ many s.waits m.waits;
      reported = subst (λ l. InTurn Shows earlier later l) (sym (map-append asked_in s.rounds more))
          (InTurn-append Shows _ _ earlier halfway later s.reported m.reported);
      port = subst (λ l. Makes may l (t.counts p.port) (t.counts r.port) (t.port p.port) (t.port r.port)) (sym made)
          (Makes-append may (made_in s.rounds) (m.made ∷ []) (t.counts p.port) (t.counts q.port) (t.counts r.port) (t.port p.port) (t.port q.port)
          (t.port r.port) s.port m.port);
      observed = orders.observed;
      tells = orders.tells;
    }

-- how many calls can fail
pub Serves-few : {P C R O A : Type 0} (t : PartsTell P C R O) (prompt may : Bool) (Shown : List (Option Moment) → Type 0) (n : ℕ)
    (p q : Server P C R O A) → ServesRounds p q t Shown prompt may n → failed_calls (t.counts q.port) ≤ failed_calls (t.counts p.port) + n
Serves-few t prompt may Shown n p q s = omega (
  arith,
  length-map (turns_in s.rounds) (λ x. x.1),
  s.each,
  Makes-few may (made_in s.rounds) (t.counts p.port) (t.counts q.port) (t.port p.port) (t.port q.port) s.port,
)
