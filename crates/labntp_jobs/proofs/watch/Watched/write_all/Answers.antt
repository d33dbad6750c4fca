use Rattle.std.proofs.Common.{take, drop, [], rules, sym, take-append-drop, append-nil}
use Rattle.std.specs.Io.KnownBytes.{Appends}
use Rattle.std.proofs.{lemmas.List.take_rest, KnownBytes.Appends-trans}
use lib.Seq.{take-add}
use Rattle.labntp_jobs.proofs.watch.Watched.write_all.Goals as goal

pub loop-at-preserved : goal.loop-at-preserved
loop-at-preserved g c =
    let took = rw take_rest at c.in-Ok.ensures.bytes in
    record {
      within = search rules;
      well = search rules;
      written = rw take-add (Appends-trans _ _ _ _ _ c.loop-at.invariant.written took);
    }

pub returns-in-Ok-eq0-clause-err : goal.returns-in-Ok-eq0-clause-err
returns-in-Ok-eq0-clause-err g c =
    let at = c.loop-at.at in let all = c.args.octets.now in
    let none : Appends (g.W.Write.contents c.loop-at.self.inner) (g.W.Write.contents c.write.new.self) [] = search rules in (
      take at all,
      (drop at all, sym (take-append-drop at all)),
      rw append-nil at (Appends-trans _ _ _ _ _ c.loop-at.invariant.written none),
    )
