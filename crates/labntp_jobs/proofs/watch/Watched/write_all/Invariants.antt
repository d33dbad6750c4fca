use Rattle.std.proofs.Common.{◌≡◌, ◌-◌, ◌≤◌, length, take}
use Rattle.labntp_jobs.specs.Watched.{Wrote}
use Rattle.labntp_jobs.proofs.watch.Watched.write_all.Given as goal

abbrev pub invariant-loop-at : goal.invariant-loop-at
invariant-loop-at g l = record {
  within : l.at ≤ length l.octets;
  well : l.self.failed ≡ l.fn.self.failed;
  written : Wrote g.W.Write.contents l.fn.self l.self (take l.at l.octets);
}

abbrev pub decreases-loop-at : goal.decreases-loop-at
decreases-loop-at g l = length l.octets - l.at
