-- Some looks and then others.
use Rattle.std.proofs.Common.{◌≡◌, ℕ, ◌+◌, ◌-◌, ◌<◌, ◌^◌, Bool, true, false, Option, None, Some, List, [], ◌∷◌, ◌++◌, length, map, refl, sym, ap, ◌∙◌, subst, append-nil, length-append, arith, inl, inr, rules}
use Rattle.std.specs.Prelude.{is_none, is_some, flat_map}
use Rattle.std.proofs.lemmas.List.{map-append}
use Rattle.std.proofs.{lemmas.List.Elements.filter-append, lemmas.List.Elements.filter_map-append, lemmas.Grind.flat_map-append}
use Rattle.ntp_packet.specs.declared.moment.Moment.{Moment}
use Rattle.ntp_service.specs.{InTurn.InTurn, Headline.Tells}
use Rattle.ntp_service.proofs.PublicLaws.{InTurn-append, Tells-nil, Tells-append}
use Rattle.ntp_port.specs.{Port.CountsMore}
use Rattle.ntp_port.proofs.PublicLaws.{CountsMore-nil, CountsMore-append}
use Rattle.ntp_admin.specs.CommandsFile.{most_line_octets, count_on, line_observations, happened_at_lines}
use Rattle.ntp_server.specs.declared.server.Server.{Server}
use Rattle.ntp_server.specs.Rounds.{Round, PartsTell, AreDueInTurn, given_in, turns_in, asked_in, happened_in_round, round_observations}
use Rattle.ntp_server.specs.Steps.{Looks, Orders, Starts, Waits}

-- ---- rounds
due-append : (xs ys : List Round) (a b c : ℕ) → AreDueInTurn a xs b → AreDueInTurn b ys c → AreDueInTurn a (xs ++ ys) c
due-append [] ys a b c p q = subst (λ n. AreDueInTurn n ys c) p q
due-append (x ∷ xs) ys a b c p q = (p.0, p.1, due-append xs ys (count_on a (length x.taken)) b c p.2 q)

pub Orders-nil : {P C R O A : Type 0} (t : PartsTell P C R O) (p : Server P C R O A) → Orders p p t []
Orders-nil t p = search (rules, Tells-nil)

pub Orders-append : {P C R O A : Type 0} (t : PartsTell P C R O) (xs ys : List Round) (p q r : Server P C R O A) → Orders p q t xs
    → Orders q r t ys → Orders p r t (xs ++ ys)
Orders-append t xs ys p q r x y = record {
  due = due-append xs ys p.applied q.applied r.applied x.due y.due;
  commands = InTurn-append _ xs ys p.commands q.commands r.commands x.commands y.commands;
  observed = subst (λ l. InTurn t.heard p.observer r.observer l) (sym (flat_map-append round_observations xs ys))
      (InTurn-append t.heard _ _ p.observer q.observer r.observer x.observed y.observed);
  tells = λ history stands. subst (λ l. Tells history l r.service) (sym (flat_map-append happened_in_round xs ys))
      (Tells-append history (flat_map happened_in_round xs) (flat_map happened_in_round ys) q.service r.service (x.tells history stands)
      (λ stood. y.tells _ stood));
}

-- ---- a look
-- one that gave nothing, behind which all but the commands is as it was
pub Looks-nothing : {P C R O A : Type 0} (t : PartsTell P C R O) (asked : Option Moment) (given : Option (List ℕ)) (p q : Server P C R O A)
    → p.applied < 2 ^ 64 → q.applied ≡ p.applied → q.observer ≡ p.observer → q.service ≡ p.service → given ≡ None
    → t.looked p.commands q.commands asked given → Looks p q t asked false
Looks-nothing t asked given p q fits applied observer service none gives = record {
  given = None;
  is = refl;
  taken = [];
  lines = refl;
  counted = omega (arith, applied);
  commands = subst (λ o. t.looked p.commands q.commands asked o) none gives;
  observed = observer;
  tells = λ history stands. subst (λ s. Tells history [] s) (sym service) (Tells-nil history p.service stands);
}

-- the round of a look without a turn
abbrev pub waiting : {P C R O A : Type 0} {p q : Server P C R O A} {t : PartsTell P C R O} {gave : Bool} → Looks p q t None gave → Round
waiting {p = p} l = record { applied = p.applied; given = l.given; taken = l.taken; turn = None }

pub Orders-look : {P C R O A : Type 0} {p q : Server P C R O A} {t : PartsTell P C R O} {gave : Bool} (l : Looks p q t None gave)
    → Orders p q t (waiting l ∷ [])
Orders-look {p = p} {q = q} {t = t} l =
    let heard = line_observations most_line_octets p.applied l.taken in
    let happened = happened_at_lines most_line_octets l.taken in
    record {
      due = (refl, l.lines, l.counted);
      commands = (q.commands, l.commands, refl);
      observed = subst (λ os. InTurn t.heard p.observer q.observer os) (sym (append-nil (heard ++ []) ∙ append-nil heard)) l.observed;
      tells = λ history stands. subst (λ es. Tells history es q.service) (sym (append-nil (happened ++ []) ∙ append-nil happened))
          (l.tells history stands);
    }

-- ---- the start
-- `many` looks gave something
pub record Starting {P C R O A : Type 0} (before after : Server P C R O A) (t : PartsTell P C R O) (many : ℕ) : Type 0 where
  pub start : List Round
  pub at_start : turns_in start ≡ []
  pub gave : List (List ℕ)
  pub all : given_in start ≡ map Some gave
  pub counted : length gave ≡ many
  pub orders : Orders before after t start

pub Starting-none : {P C R O A : Type 0} (t : PartsTell P C R O) (p : Server P C R O A) → Starting p p t 0
Starting-none t p = record { start = []; at_start = refl; gave = []; all = refl; counted = refl; orders = Orders-nil t p }

module _ {P C R O A : Type 0} (p q r : Server P C R O A) (t : PartsTell P C R O) (many : ℕ) (s : Starting p q t many) where
  with_look : {gave : Bool} (l : Looks q r t None gave) → Orders p r t (s.start ++ waiting l ∷ [])
  with_look l = Orders-append t s.start (waiting l ∷ []) p q r s.orders (Orders-look l)

  no_turn : {gave : Bool} (l : Looks q r t None gave) → turns_in (s.start ++ waiting l ∷ []) ≡ []
  no_turn l = filter_map-append (λ x. x.turn) s.start (waiting l ∷ []) ∙ ap (λ xs. xs ++ []) s.at_start

  with_given : {gave : Bool} (l : Looks q r t None gave) → given_in (s.start ++ waiting l ∷ []) ≡ map Some s.gave ++ l.given ∷ []
  with_given l = map-append (λ x. x.given) s.start (waiting l ∷ []) ∙ ap (λ xs. xs ++ l.given ∷ []) s.all

  pub Starting-more : Looks q r t None true → Starting p r t (many + 1)
  Starting-more l = by l.given refl l.is
    where
      by : (given : Option (List ℕ)) → l.given ≡ given → true ≡ is_some given → Starting p r t (many + 1)
      by None same is = absurd (cc)
      by (Some octets) same is = record {
        start = s.start ++ waiting l ∷ [];
        at_start = no_turn l;
        gave = s.gave ++ octets ∷ [];
        all = with_given l ∙ ap (λ g. map Some s.gave ++ g ∷ []) same ∙ sym (map-append Some s.gave (octets ∷ []));
        counted = length-append s.gave (octets ∷ []) ∙ ap (λ n. n + 1) s.counted;
        orders = with_look l;
      }

  pub Starts-nothing : Looks q r t None false → Starts p r t
  Starts-nothing l = by l.given refl l.is
    where
      by : (given : Option (List ℕ)) → l.given ≡ given → false ≡ is_some given → Starts p r t
      by (Some octets) same is = absurd (cc)
      by None same is = record {
        start = s.start ++ waiting l ∷ [];
        at_start = no_turn l;
        gave = s.gave;
        until = inl (with_given l ∙ ap (λ g. map Some s.gave ++ g ∷ []) same);
        orders = with_look l;
      }

-- as many as there may be
pub Starts-all : {P C R O A : Type 0} (p q : Server P C R O A) (t : PartsTell P C R O) (many : ℕ) → Starting p q t many → many ≡ 2 ^ 64 - 1
    → Starts p q t
Starts-all p q t many s all =
    record { start = s.start; at_start = s.at_start; gave = s.gave; until = inr (s.all, s.counted ∙ all); orders = s.orders }

-- ---- a wait
pub Waits-none : {P C R O A : Type 0} (t : PartsTell P C R O) (prompt : Bool) (Shown : List (Option Moment) → Type 0) (p : Server P C R O A)
    → Shown [] → (w : Waits p p t Shown prompt) × (length w.rounds ≡ 0)
Waits-none t prompt Shown p shown = (
  record {
    rounds = [];
    no_turn = refl;
    waiting = refl;
    one_look = λ is. refl;
    orders = Orders-nil t p;
    waited = CountsMore-nil (t.counts p.port).idle_waits;
    tended = refl;
    reported = shown;
  },
  refl,
)

-- it goes on only at a port that is not prompt
pub Waits-more : {P C R O A Q : Type 0} (t : PartsTell P C R O) (prompt gave : Bool) (Shows : Q → Q → Option Moment → Type 0)
    (earlier halfway later : Q) (p q r : Server P C R O A) (port : P) (states : R) (n : ℕ) → prompt ≡ false
    → (w : Waits p q t (InTurn Shows earlier halfway) prompt) × (length w.rounds ≡ n)
    → Looks (record q { port = port }) r t None gave → CountsMore (t.counts q.port).idle_waits (t.counts r.port).idle_waits 1
    → r.reference ≡ q.reference → t.tended r.reference states → Shows halfway later None
    → (w : Waits p (record r { reference = states }) t (InTurn Shows earlier later) prompt) × (length w.rounds ≡ n + 1)
Waits-more {P} {C} {R} {O} {A} t prompt gave Shows earlier halfway later p q r port states n waits (w, many) l waited same tends shown =
    let round = waiting l in
    let end : Server P C R O A = record r { reference = states } in
    let all : length (w.rounds ++ round ∷ []) ≡ length w.rounds + 1 = length-append w.rounds (round ∷ []) in
    let look = Orders-look l in (
      record {
        rounds = w.rounds ++ round ∷ [];
        no_turn = filter_map-append (λ x. x.turn) w.rounds (round ∷ []) ∙ ap (λ xs. xs ++ []) w.no_turn;
        waiting = filter-append (λ x. is_none x.turn) w.rounds (round ∷ []) ∙ ap (λ xs. xs ++ round ∷ []) w.waiting;
        one_look = λ is. let bad : false ≡ true = sym waits ∙ is in absurd cc;
        orders = Orders-append t w.rounds (round ∷ []) p q end w.orders
            (record { due = look.due; commands = look.commands; observed = look.observed; tells = look.tells });
        waited = CountsMore-append (t.counts p.port).idle_waits (t.counts q.port).idle_waits (t.counts r.port).idle_waits (length w.rounds) 1 _ all
            w.waited waited;
        tended = InTurn-append _ w.rounds (round ∷ []) p.reference q.reference states w.tended
            (states, subst (λ s. t.tended s states) same tends, refl);
        reported = subst (λ xs. InTurn Shows earlier later xs) (sym (map-append asked_in w.rounds (round ∷ [])))
            (InTurn-append Shows _ _ earlier halfway later w.reported (later, shown, refl));
      },
      all ∙ ap (λ m. m + 1) many,
    )

-- the port goes on, as far as its waits are counted
pub Waits-port : {P C R O A : Type 0} (t : PartsTell P C R O) (prompt : Bool) (Shown : List (Option Moment) → Type 0) (p q : Server P C R O A)
    (port : P) (w : Waits p q t Shown prompt) → CountsMore (t.counts p.port).idle_waits (t.counts port).idle_waits (length w.rounds)
    → Waits p (record q { port = port }) t Shown prompt
Waits-port t prompt Shown p q port w waited = record {
  rounds = w.rounds;
  no_turn = w.no_turn;
  waiting = w.waiting;
  one_look = w.one_look;
  orders = record { due = w.orders.due; commands = w.orders.commands; observed = w.orders.observed; tells = w.orders.tells };
  waited = waited;
  tended = w.tended;
  reported = w.reported;
}
