-- What a server does at a port.
use Rattle.std.specs.Prelude.{◌≡◌, ℕ, zero, suc, ◌+◌, Bool, false, true, Option, Some, IfSome, IsSomeAnd, is_none, option_map, Result, List, [], ◌∷◌, ◌++◌, length, take, drop, map, filter, flat_map}
use Rattle.std.specs.Result.{result_ok}
use Rattle.ntp_service.specs.{Registry.Registry, declared.observation.Arrival.Arrival}
use Rattle.ntp_service.specs.{declared.observation.TurnOutcome.TurnOutcome, declared.event.Event.Event}
use Rattle.ntp_service.specs.Headline.{StandsFor, Tells}
use Rattle.ntp_reply.specs.Reference.{ReferenceState}
use Rattle.ntp_port.specs.{declared.port.PortCounts.PortCounts, declared.port.PortFault.PortFault, declared.serving.Served.Served}
use Rattle.ntp_port.specs.Port.{IncomingValue, Readings, TurnValue, no_turn, Told, received, CountsMore, counted_send}
use Rattle.ntp_port.specs.Made.{Made, Missed, turn_of, happened_in_turn, sent_in, has_arrived, has_departed, is_unsent, arrival_of, turn_outcome}

-- the first `n` of a list, which goes on for ever with `behind`
abbrev pub firsts : {X : Type 0} → X → ℕ → List X → List X
firsts behind zero xs = []
firsts behind (suc n) [] = behind ∷ firsts behind n []
firsts behind (suc n) (x ∷ xs) = x ∷ firsts behind n xs

-- what a port that tells its turns told before it began these and tells afterwards: they were those of its list, while it lasted, and
-- what the turns sent that a server made was sent
pub record FollowsList (begun : List TurnValue) (made : List Made) (old new : Told) : Type 0 where
  pub next : begun ≡ firsts no_turn (length begun) old.coming
  pub coming : new.coming ≡ drop (length begun) old.coming
  pub sent : new.sent ≡ old.sent ++ flat_map sent_in made

-- the same of any port: one that tells nothing can have begun any turns
abbrev pub Follows : List TurnValue → List Made → Option Told → Option Told → Type 0
Follows begun made t u = IfSome t (λ old. IsSomeAnd u (λ new. FollowsList begun made old new))

-- a step at a port that may drop: a turn that a server makes, one whose datagram was dropped, or one that a server makes in which the
-- port gave up, and began none
pub data Step : Type 0 where
  InTurn : Made → Step
  Skipped : IncomingValue → Readings → Bool → Step
  GivenUp : Readings → Bool → Step

-- the turn that the port began
abbrev pub begun_in : Step → List TurnValue
begun_in (InTurn m) = turn_of m ∷ []
begun_in (Skipped d clock sends) = record { arrival = Some d; clock = clock; sends = sends } ∷ []
begun_in (GivenUp clock sends) = []

-- the one that the server made
abbrev pub made_of : Step → List Made
made_of (InTurn m) = m ∷ []
made_of (Skipped d clock sends) = []
made_of (GivenUp clock sends) = Missed clock sends ∷ []

-- the datagram that was dropped
abbrev pub dropped_in : Step → List IncomingValue
dropped_in (Skipped d clock sends) = d ∷ []
dropped_in other = []

-- these turns were made at a port that may drop, which counts what it drops
pub record PassesOver (made : List Made) (count after : ℕ) (t u : Option Told) : Type 0 where
  pub steps : List Step
  pub all : flat_map made_of steps ≡ made
  pub counted : CountsMore count after (length (flat_map dropped_in steps))
  pub port : Follows (flat_map begun_in steps) made t u

-- or at one that may drop or not: else they are just the turns that the port began
abbrev pub AreBegun : Bool → List Made → ℕ → ℕ → Option Told → Option Told → Type 0
AreBegun false made count after t u = (after ≡ count) × Follows (map turn_of made) made t u
AreBegun true made count after t u = PassesOver made count after t u

-- the same, with what the port counted before, `a`, and counted then, `b`: receives failed in the turns with no datagram, and sends in
-- those whose reply could not be sent, and no others
pub record Makes (may_drop : Bool) (made : List Made) (a b : PortCounts) (t u : Option Told) : Type 0 where
  pub turns : AreBegun may_drop made a.dropped b.dropped t u
  pub failed_receives : b.failed_receives ≡ a.failed_receives + length (filter (λ m. is_none (turn_of m).arrival) made)
  pub failed_sends : b.failed_sends ≡ a.failed_sends + length (filter is_unsent made)

-- a server made `turns` turns, at a port that may drop or not: whatever history the service stood for, it tells what happened in the
-- turns, and goes on to stand for that history and this
pub record ServeMakes (A : Type 0) (reference : ReferenceState) (may_drop : Bool) (turns : ℕ) (t u : Option Told) (a b : PortCounts)
    (service after : Registry) (served : Served) : Type 0 where
  pub made : List Made
  pub each : length made ≡ turns
  pub port : Makes may_drop made a b t u
  pub arrivals : served.arrivals ≡ length (filter has_arrived made)
  pub sent : served.sent ≡ length (flat_map sent_in made)
  pub departed : served.departed ≡ length (filter has_departed made)
  pub tells : (history : List (Event A)) → StandsFor service history
      → Tells history (flat_map (happened_in_turn reference) made) after

-- a turn in which this was received was made, and came to this; `t` is what the port told before it received, `a` its counts
-- afterwards, in which a receive that failed is counted
pub record TurnMakes (A : Type 0) (reference : ReferenceState) (r : Result Arrival PortFault) (buffer : List ℕ) (t u : Option Told)
    (a b : PortCounts) (service after : Registry) (outcome : TurnOutcome) : Type 0 where
  pub made : Made
  pub comes_to : outcome ≡ turn_outcome made
  pub arrived : option_map arrival_of (turn_of made).arrival ≡ result_ok r
  pub octets : option_map received (turn_of made).arrival ≡ option_map (λ arrival. take arrival.length buffer) (result_ok r)
  pub port : Follows (turn_of made ∷ []) (made ∷ []) t u
  pub counts : b ≡ counted_send (is_unsent made) a
  pub tells : (history : List (Event A)) → StandsFor service history → Tells history (happened_in_turn reference made) after
