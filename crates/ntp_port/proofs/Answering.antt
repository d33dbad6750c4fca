-- What a turn comes to, once a datagram was received, or could not be.
use Rattle.std.proofs.Common.{◌≡◌, ℕ, ◌≤◌, false, Option, None, Some, Ok, Err, List, [], ◌∷◌, length, get_or, take, drop, refl, sym, ap, ◌∙◌, subst, append-nil, length-take, arith}
use Rattle.std.proofs.lemmas.List.{take_all}
use Rattle.ntp_packet.specs.declared.moment.Moment.{Moment}
use Rattle.ntp_service.specs.{Registry.Registry, declared.observation.Arrival.Arrival, declared.observation.Sending.Sending}
use Rattle.ntp_service.specs.declared.observation.TurnOutcome.TheVariants.{NothingReceived, Answered}
use Rattle.ntp_service.specs.{declared.event.Event.Event, Headline.StandsFor, Headline.TellsOne}
use Rattle.ntp_reply.specs.{Reference.ReferenceState, declared.answers.Answer.Answer}
use Rattle.ntp_service.specs.declared.event.Event.TheVariants as event
use Rattle.ntp_service.specs.declared.outcome.Outcome.TheVariants as outcome
use Rattle.ntp_service.proofs.PublicLaws.{Tells-nil, Tells-one, Tells-append}
use Rattle.ntp_port.specs.{declared.sent.Sent.Sent, declared.port.PortCounts.PortCounts, declared.port.PortFault.PortFault, Serving.TurnMakes}
use Rattle.ntp_port.specs.Port.{IncomingValue, Readings, TurnValue, no_turn, Told, Arrives, Begins, ReceiveTells, NowTells, ReadClock, behind, received, counted_send}
use Rattle.ntp_port.specs.Made.{Missed, Received, turn_of, arrival_of, sending_of, is_unsent}
use Rattle.ntp_port.specs.Sending.{turn_with, IsInTurn, SendingMakes}
use Rattle.ntp_port.proofs.OneTurn.{FollowsOne, follows-one, counted-none}

-- ---- a turn in which nothing came
made-empty : (A : Type 0) (reference : ReferenceState) (turn : TurnValue) (t u : Option Told) (k l : PortCounts) (fault : PortFault)
    (buffer : List ℕ) (s : Registry) → FollowsOne (Missed turn.clock turn.sends) t u → l ≡ k
    → TurnMakes A reference (Err fault) buffer t u k l s s NothingReceived
made-empty A reference turn t u k l fault buffer s follows count = record {
  made = Missed turn.clock turn.sends;
  comes_to = refl;
  arrived = refl;
  octets = refl;
  port = follows;
  counts = count ∙ counted-none k;
  tells = λ history stands. Tells-nil history s stands;
}

pub nothing-came : (A : Type 0) (reference : ReferenceState) (t u : Option Told) (k l : PortCounts) (fault : PortFault) (buffer : List ℕ)
    (s : Registry) → l ≡ k → ReceiveTells t u (Err fault) buffer → TurnMakes A reference (Err fault) buffer t u k l s s NothingReceived
nothing-came A reference t u k l fault buffer s count told = by_told t u told
  where
    by_turns : (coming : List TurnValue) (old new : Told) → old.coming ≡ coming → Begins (get_or coming 0 no_turn) old new (Err fault) buffer
        → TurnMakes A reference (Err fault) buffer (Some old) (Some new) k l s s NothingReceived
    by_turns [] old new here p = made-empty A reference no_turn (Some old) (Some new) k l fault buffer s (record {
      next = rw here refl;
      coming = ap (λ (z : Told). z.coming) p.1;
      sent = ap (λ (z : Told). z.sent) p.1 ∙ sym (append-nil old.sent);
    }) count
    by_turns (turn ∷ rest) old new here p = by_arrival turn.arrival refl p.0
      where
        by_arrival : (x : Option IncomingValue) → turn.arrival ≡ x → Arrives x (Err fault) buffer
            → TurnMakes A reference (Err fault) buffer (Some old) (Some new) k l s s NothingReceived
        by_arrival (Some d) is q = absurd q
        by_arrival None is q =
            let whole : turn ≡ turn_of (Missed turn.clock turn.sends) =
            ap (λ z. record { arrival = z; clock = turn.clock; sends = turn.sends }) is in
            made-empty A reference turn (Some old) (Some new) k l fault buffer s
            (follows-one (Missed turn.clock turn.sends) rest old new (here ∙ ap (λ z. z ∷ rest) whole)
            (ap (λ (z : Told). z.coming) p.1 ∙ ap (drop 1) here) (ap (λ (z : Told). z.sent) p.1 ∙ sym (append-nil old.sent))) count

    by_told : (t u : Option Told) → ReceiveTells t u (Err fault) buffer
        → TurnMakes A reference (Err fault) buffer t u k l s s NothingReceived
    by_told None u p = made-empty A reference no_turn None u k l fault buffer s tt count
    by_told (Some old) None p = absurd p
    by_told (Some old) (Some new) p = by_turns old.coming old new refl p

-- ---- a turn in which a datagram came
-- the datagram of a turn, once the clock was read
pub record Comes (t v : Option Told) (x : Arrival) (buffer : List ℕ) (transmit : Moment) : Type 0 where
  pub from : IncomingValue
  pub arrival : arrival_of from ≡ x
  pub octets : received from ≡ take x.length buffer
  pub in_turn : IsInTurn t v from transmit

same-arrival : (d : IncomingValue) (x : Arrival) → d.address ≡ x.address → d.port ≡ x.port → d.receipt ≡ x.receipt
    → length (received d) ≡ x.length → arrival_of d ≡ x
same-arrival d x e h k n = rw (e, h, k, n) refl

-- what a port tells that is in a turn, whose clock was read
abbrev in_turn : List TurnValue → TurnValue → Readings → List Sent → Told
in_turn rest turn clock sent = record { coming = rest; present = turn; clock = behind ReadClock clock; has_tried_send = false; sent = sent }

module _ (x : Arrival) (buffer : List ℕ) (transmit : Moment) (most : x.length ≤ 1025) (long : length buffer ≡ 1025) where
  taken : length (take x.length buffer) ≡ x.length
  taken = omega (arith, length-take x.length buffer)

  -- the datagram that is seen at a port that tells nothing
  abbrev seen : IncomingValue
  seen = record { address = x.address; port = x.port; receipt = x.receipt; octets = take x.length buffer }

  seen-whole : received seen ≡ take x.length buffer
  seen-whole = take_all 1025 (take x.length buffer) (omega (arith, taken))

  comes-next : (coming : List TurnValue) (old mid new : Told) → old.coming ≡ coming
      → Begins (get_or coming 0 no_turn) old mid (Ok x) buffer → NowTells (Some mid) (Some new) transmit → Comes (Some old) (Some new) x buffer transmit
  comes-next [] old mid new here p q = cc
  comes-next (turn ∷ rest) old mid new here p q = by_arrival turn.arrival refl p.0
    where
      by_arrival : (y : Option IncomingValue) → turn.arrival ≡ y → Arrives y (Ok x) buffer → Comes (Some old) (Some new) x buffer transmit
      by_arrival None is a = cc
      by_arrival (Some d) is a =
          let shown : transmit ≡ turn.clock [] = q.0 ∙ ap (λ (t : Told). t.clock []) p.1 in
          let whole : turn ≡ turn_with d turn.clock turn.sends =
          ap (λ z. record { arrival = z; clock = turn.clock; sends = turn.sends }) is in
          record {
            from = d;
            arrival = same-arrival d x (sym a.0) (sym a.1) (sym a.2) (ap length (sym a.3) ∙ taken);
            octets = sym a.3;
            in_turn = (
              turn.clock,
              turn.sends,
              rest,
              record {
                first = sym shown;
                coming = here ∙ ap (λ z. z ∷ rest) whole;
                after = q.1 ∙ ap (λ (t : Told). record t { clock = behind ReadClock t.clock }) p.1
                    ∙ ap (λ l. in_turn l turn turn.clock old.sent) (ap (drop 1) here)
                    ∙ ap (λ z. in_turn rest z turn.clock old.sent) whole;
              },
            );
          }

  pub comes : (t u v : Option Told) → ReceiveTells t u (Ok x) buffer → NowTells u v transmit → Comes t v x buffer transmit
  comes None u v p q = record {
    from = seen;
    arrival = same-arrival seen x refl refl refl (ap length seen-whole ∙ taken);
    octets = seen-whole;
    in_turn = tt;
  }
  comes (Some old) None v p q = absurd p
  comes (Some old) (Some mid) None p q = absurd q
  comes (Some old) (Some mid) (Some new) p q = comes-next old.coming old mid new refl p q

pub answered : (A : Type 0) (reference : ReferenceState) (x : Arrival) (buffer : List ℕ) (transmit : Moment) (t v u : Option Told)
    (i j l : PortCounts) (s r q : Registry) (a : Answer) (sending : Sending) (k : Comes t v x buffer transmit) → j ≡ i
    → ((history : List (Event A)) → StandsFor s history
    → TellsOne history (event.Datagram x.address x.receipt transmit reference (take x.length buffer)) (outcome.Datagram a) r)
    → SendingMakes A a k.from transmit t u j l r q sending
    → TurnMakes A reference (Ok x) buffer t u i l s q (Answered x a sending)
answered A reference x buffer transmit t v u i j l s r q a sending k count told p =
    let d = k.from in
    let same : ◌≡◌ {A = Event A} (event.Datagram x.address x.receipt transmit reference (take x.length buffer))
    (event.Datagram d.address d.receipt (p.clock []) reference (received d)) =
    ap (λ (z : Arrival). event.Datagram z.address z.receipt transmit reference (take x.length buffer)) (sym k.arrival)
    ∙ ap (λ z. event.Datagram d.address d.receipt transmit reference z) (sym k.octets)
    ∙ ap (λ z. event.Datagram d.address d.receipt z reference (received d)) (sym p.first) in
    let first : Event A = event.Datagram d.address d.receipt (p.clock []) reference (received d) in
    record {
      made = Received d p.clock p.sends a p.noted;
      comes_to = ap (λ z. Answered x a z) p.comes_to ∙ ap (λ z. Answered z a (sending_of a p.sends p.noted)) (sym k.arrival);
      arrived = ap (λ z. Some z) k.arrival;
      octets = ap (λ l. Some l) k.octets;
      port = p.port;
      counts = p.counts ∙ ap (counted_send (is_unsent (Received d p.clock p.sends a p.noted))) count;
      tells = λ history stands. Tells-append history ((first, outcome.Datagram a) ∷ []) _ r q
          (Tells-one history first (outcome.Datagram a) r
          (subst (λ e. TellsOne history e (outcome.Datagram a) r) same (told history stands)))
          (λ on. p.tells _ on);
    }
