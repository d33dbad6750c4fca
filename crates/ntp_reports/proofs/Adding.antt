-- Counts, after some kinds more were counted.
use Rattle.std.proofs.Common.{◌≡◌, List, [], ◌∷◌, ◌++◌, arith}
use Rattle.std.proofs.{lemmas.Grind.flat_map-append, lemmas.List.Sums.sum_by-append}
use Rattle.ntp_reply.specs.declared.answers.Answer.{Answer}
use Rattle.ntp_service.specs.declared.observation.{Arrival.Arrival, Observation.Observation, Sending.Sending}
use Rattle.ntp_service.specs.declared.observation.TurnOutcome.TheVariants.{Answered}
use Rattle.ntp_service.specs.declared.observation.Observation.TheVariants as observation
use Rattle.ntp_reports.specs.{declared.kind.Kind.Kind, declared.counts.Counts.Counts, Counted.CountsOneMore, Counted.Adds}
use Rattle.ntp_reports.specs.Kinds.{kinds_of, answer_kind, sending_kinds}

-- two lists of kinds were counted, one behind the other
pub Adds-append : (a b c : Counts) (xs ys : List Kind) → Adds a b xs → Adds b c ys → Adds a c (xs ++ ys)
Adds-append a b c xs ys first then = grind (arith, sum_by-append)

-- no kind was counted
pub Adds-none : (counts : Counts) → Adds counts counts []
Adds-none counts = grind arith

-- the kinds of an observation were counted
pub counted-Adds : (old new : Counts) (more : Observation) → Adds old new (kinds_of more) → CountsOneMore old new more
counted-Adds old new more adds = grind (arith, flat_map-append, sum_by-append)

-- an answer was counted, and then what became of the reply
pub counted-answer : (old mid new : Counts) (arrival : Arrival) (a : Answer) (sending : Sending) (k : Kind) (ks : List Kind)
    → k ≡ answer_kind a → ks ≡ sending_kinds sending → Adds old mid (k ∷ []) → Adds mid new ks → CountsOneMore old new (observation.Turn (Answered arrival a sending))
counted-answer old mid new arrival a sending k ks is these first then =
    counted-Adds old new _ (rw (← is, ← these) (Adds-append old mid new (k ∷ []) ks first then))
