use Rattle.std.proofs.Common.{◌≡◌, ◌≤◌, ◌*◌, false, List, ℕ}
use Rattle.std.specs.Io.KnownBytes.{Consumes}
use Rattle.labntp_jobs.specs.{declared.replaying.TheConstants.CHUNK, Engine.IsUnfed, Engine.Fed, Watched.Wrote}
use Rattle.labntp_jobs.proofs.replaying.replay.Given as goal

abbrev pub invariant-loop-turn : goal.invariant-loop-turn
invariant-loop-turn g l = record {
  reads : l.reader.reads ≡ l._turn;
  bound : l.engine.done ≤ CHUNK * l._turn;
  reader_well : l.reader.failed ≡ false;
  writer_well : l.writer.failed ≡ false;
  unfed : IsUnfed l.initial.engine;
  so_far : (octets written : List ℕ) × Fed l.initial.engine l.engine octets written
      × Consumes (g.R.Read.remaining l.fn.reader.inner) (g.R.Read.remaining l.reader.inner) octets
      × Wrote g.W.Write.contents l.fn.writer l.writer written;
}
