use Rattle.std.proofs.Common.{◌≡◌, ℕ, ◌<◌, List}
use Rattle.std.specs.Prelude.{IsTrue}
use Rattle.ntp_packet.specs.declared.stamp.Stamp.{Stamp}
use Rattle.ntp_packet.specs.Fresh.{later, is_free, TellsTaken}
use Rattle.ntp_packet.proofs.free_stamp.first_free.Given as goal

abbrev pub invariant-loop-step : goal.invariant-loop-step
invariant-loop-step g l = record {
  reached : l.candidate ≡ later l.fn.s l._step;
  passed : (taken : List Stamp) → TellsTaken (goal.F-post g l.fn.is_taken) taken → (j : ℕ) → j < l._step → ¬ IsTrue (is_free taken (later l.fn.s j));
}
