use Rattle.std.proofs.Common.{◌≡◌, ◌≤◌, ◌+◌, List, ℕ, take}
use Rattle.labntp_jobs.specs.{Engine.Fed, Watched.Wrote}
use Rattle.labntp_jobs.proofs.engine.Engine.feed.Given as goal

abbrev pub invariant-loop-octet : goal.invariant-loop-octet
invariant-loop-octet g l = record {
  bound : l.self.done ≤ l.fn.self.done + l.octet-index;
  well : l.writer.failed ≡ l.fn.writer.failed;
  so_far : (written : List ℕ) × Fed l.fn.self l.self (take l.octet-index l.octets) written
      × Wrote g.W.Write.contents l.fn.writer l.writer written;
}
