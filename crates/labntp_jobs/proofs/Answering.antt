-- How many calls of a port fail while a datagram is answered.
use Rattle.std.proofs.Common.{◌≡◌, ℕ, ◌+◌, ◌≤◌, Option, Result, List, arith}
use Rattle.std.specs.{Prelude.option_map, Prelude.is_err, Result.result_ok}
use Rattle.ntp_reply.specs.Reference.{ReferenceState}
use Rattle.ntp_service.specs.{Registry.Registry, declared.observation.Arrival.Arrival}
use Rattle.ntp_service.specs.declared.observation.TurnOutcome.{TurnOutcome}
use Rattle.ntp_port.specs.{declared.port.PortCounts.PortCounts, declared.port.PortFault.PortFault, Serving.TurnMakes}
use Rattle.ntp_port.specs.Port.{Told, failed_calls, counted_send, CountsReceive}
use Rattle.ntp_port.specs.Made.{Made, turn_of, arrival_of, is_unsent}
use Rattle.ntp_port.proofs.PublicLaws.{at-most-one}

-- a call that received failed or not, and a turn fails once at most: in that call, or behind it
pub one-fails : (A : Type 0) (reference : ReferenceState) (r : Result Arrival PortFault) (buffer : List ℕ) (t u : Option Told)
    (a b c : PortCounts) (s q : Registry) (o : TurnOutcome) → TurnMakes A reference r buffer t u b c s q o → CountsReceive a b (is_err r)
    → failed_calls c ≤ failed_calls a + 1
one-fails A reference r buffer t u a b c s q o turn received = by_turn turn.made r turn.arrived received turn.counts
  where
    by_turn : (made : Made) (r : Result Arrival PortFault) → option_map arrival_of (turn_of made).arrival ≡ result_ok r
        → CountsReceive a b (is_err r) → c ≡ counted_send (is_unsent made) b → failed_calls c ≤ failed_calls a + 1
    by_turn made r e f g = grind (arith, at-most-one)
