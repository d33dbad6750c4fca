-- The counts of turns.
use Rattle.std.proofs.Common.{◌≡◌, ℕ, ◌+◌, ◌≤◌, Bool, true, false, Option, List, [], ◌∷◌, ◌++◌, length, refl, sym, ap, ◌∙◌, subst, append-nil, length-append, arith}
use Rattle.std.proofs.lemmas.Grind.{flat_map-append}
use Rattle.std.specs.Prelude.{Result, flat_map}
use Rattle.ntp_service.specs.{Registry.Registry, declared.observation.Arrival.Arrival, declared.observation.Sending.Sending}
use Rattle.ntp_service.specs.{declared.observation.TurnOutcome.TurnOutcome, Headline.Tells, Sending.was_sent, Sending.was_noted}
use Rattle.ntp_reply.specs.{Reference.ReferenceState, declared.answers.Answer.Answer}
use Rattle.ntp_reply.specs.declared.answers.Answer.TheVariants as answer
use Rattle.ntp_service.proofs.PublicLaws.{Tells-nil, Tells-append}
use Rattle.ntp_port.specs.{declared.port.PortCounts.PortCounts, declared.port.PortFault.PortFault, declared.serving.Served.Served}
use Rattle.ntp_port.specs.{Serving.ServeMakes, Sending.counted, Port.IncomingValue, Port.Readings, Port.Told}
use Rattle.ntp_port.specs.Made.{Made, Received, happened_in_turn, sent_in, has_arrived, has_departed, sending_of, turn_outcome}
use Rattle.ntp_port.proofs.{Taking.TakesTurn, ManyTurns.sent_of, ManyTurns.if_so, ManyTurns.count-more, ManyTurns.Makes-nil, ManyTurns.Makes-append}

pub at-most-one : (b : Bool) → if_so b ≤ 1
at-most-one b = grind arith

-- a turn counts one at most
pub record CountsOne (c d : Served) : Type 0 where
  pub arrivals : d.arrivals ≤ c.arrivals + 1
  pub sent : d.sent ≤ c.sent + 1
  pub departed : d.departed ≤ c.departed + 1

pub counts-one : (o : TurnOutcome) (c : Served) → CountsOne c (counted o c)
counts-one o c = grind (arith, at-most-one)

-- what became of a reply tells what its turn sends, and whether its departure is noted
record SendsOne (m : Made) (sending : Sending) : Type 0 where
  sent : if_so (was_sent sending) ≡ length (sent_in m)
  noted : was_noted sending ≡ has_departed m

-- so it is of a turn with a datagram
sends-one : (d : IncomingValue) (clock : Readings) (sends : Bool) (a : Answer) (noted : Bool)
    → SendsOne (Received d clock sends a noted) (sending_of a sends noted)
sends-one d clock true (answer.Time reply saved) true = record { sent = refl; noted = refl }
sends-one d clock true (answer.Time reply saved) false = record { sent = refl; noted = refl }
sends-one d clock false (answer.Silent why) noted = record { sent = refl; noted = refl }
sends-one d clock sends a noted = record { sent = refl; noted = refl }

-- what a turn counts
record Counted (m : Made) (c d : Served) : Type 0 where
  arrivals : d.arrivals ≡ c.arrivals + if_so (has_arrived m)
  sent : d.sent ≡ c.sent + length (sent_in m)
  departed : d.departed ≡ c.departed + if_so (has_departed m)

counted-made : (m : Made) (c : Served) → Counted m c (counted (turn_outcome m) c)
counted-made m c = grind (arith, sends-one, if_so)

sent-more : (made : List Made) (m : Made) → length (sent_of (made ++ m ∷ [])) ≡ length (sent_of made) + length (sent_in m)
sent-more made m = grind (arith, flat_map-append, length-append, sent_of, append-nil)

-- ---- the turns of a server
pub ServeMakes-nil : (A : Type 0) (reference : ReferenceState) (may : Bool) (t : Option Told) (a : PortCounts) (s : Registry)
    → ServeMakes A reference may 0 t t a a s s (record { arrivals = 0; sent = 0; departed = 0 })
ServeMakes-nil A reference may t a s = record {
  made = [];
  each = refl;
  port = Makes-nil may a t;
  arrivals = refl;
  sent = refl;
  departed = refl;
  tells = λ history stands. Tells-nil history s stands;
}

pub ServeMakes-turn : (A : Type 0) (reference : ReferenceState) (may : Bool) (n : ℕ) (t u v : Option Told) (a b i c : PortCounts)
    (s r q : Registry) (served : Served) (x : Result Arrival PortFault) (buffer : List ℕ) (o : TurnOutcome)
    → ServeMakes A reference may n t u a b s r served → TakesTurn A reference may x buffer u v b i c r q o
    → ServeMakes A reference may (n + 1) t v a c s q (counted o served)
ServeMakes-turn A reference may n t u v a b i c s r q served x buffer o p taken =
    let k = taken.turn in
    let m = k.made in
    let one : Counted m served (counted o served) = subst (λ z. Counted m served (counted z served)) (sym k.comes_to) (counted-made m served) in
    record {
      made = p.made ++ m ∷ [];
      each = omega (arith, p.each, length-append p.made (m ∷ []));
      port = Makes-append may p.made (m ∷ []) a b c t u v p.port taken.port;
      arrivals = omega (arith, p.arrivals, one.arrivals, count-more has_arrived p.made m);
      sent = omega (arith, p.sent, one.sent, sent-more p.made m);
      departed = omega (arith, p.departed, one.departed, count-more has_departed p.made m);
      tells = λ history stands.
          subst (λ l. Tells history l q)
          (ap (λ l. flat_map (happened_in_turn reference) p.made ++ l) (sym (append-nil (happened_in_turn reference m)))
          ∙ sym (flat_map-append (happened_in_turn reference) p.made (m ∷ [])))
          (Tells-append history (flat_map (happened_in_turn reference) p.made) (happened_in_turn reference m) r q
          (p.tells history stands) (λ on. k.tells _ on));
    }
