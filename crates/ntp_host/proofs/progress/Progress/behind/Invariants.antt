use Rattle.std.proofs.Common.{◌≢◌, ℕ, ◌≤◌, ◌<◌, length}
use Rattle.std.specs.Prelude.{slice_index}
use Rattle.ntp_host.proofs.progress.Progress.behind.Given as goal

abbrev pub invariant-loop-count : goal.invariant-loop-count
invariant-loop-count l = record {
  within : l.count ≤ length l.octets;
  rest : (k : ℕ) → l.count ≤ k → k < length l.octets → slice_index l.octets k ≢ 10;
}

abbrev pub decreases-loop-count : goal.decreases-loop-count
decreases-loop-count l = l.count
