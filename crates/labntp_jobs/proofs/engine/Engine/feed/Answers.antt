use Rattle.std.proofs.Common.{refl, ◌∙◌, arith, ◌++◌, ◌+◌, [], drop}
use Rattle.std.proofs.{KnownBytes.Appends-nil, KnownBytes.Appends-trans, lemmas.List.take_more, lemmas.Result.err_from_is_err_and}
use Rattle.labntp_jobs.proofs.Feeding.{Fed-nil, Fed-trans, Fed-stops, Stops-more, octets_whole}
use Rattle.labntp_jobs.proofs.engine.Engine.feed.Goals as goal

pub loop-octet-init : goal.loop-octet-init
loop-octet-init g c = record { bound = omega arith; well = refl; so_far = ([], Fed-nil _, Appends-nil _) }

pub returns-in_err-take_octet-clause-err : goal.returns-in_err-take_octet-clause-err
returns-in_err-take_octet-clause-err g c =
    let xs = c.args.octets.now in let i = c.loop-octet.octet-index in
    let s = c.loop-octet.invariant.so_far in let e = c.in_err-take_octet.ensures.err in
    let stopped = Stops-more _ _ _ _ (drop (i + 1) xs) _ (Fed-stops _ _ _ _ _ _ _ _ s.1 e.1) in
    let p = err_from_is_err_and c.from_residual.result c.from_residual.ensures.1 in
    rw (p.1, p.2) (s.0 ++ e.0, rw (octets_whole xs i c.loop-octet-test.true) at stopped, Appends-trans _ _ _ _ _ s.2 e.2)

pub loop-octet-preserved : goal.loop-octet-preserved
loop-octet-preserved g c =
    let s = c.loop-octet.invariant.so_far in let e = c.in_ok-take_octet.ensures.ok in
    record {
      bound = omega (arith, c.take_octet.ensures.bound, c.loop-octet.invariant.bound);
      well = c.in_ok-take_octet.ensures.well ∙ c.loop-octet.invariant.well;
      so_far = (
        s.0 ++ e.0,
        rw (take_more c.args.octets.now c.loop-octet.octet-index 0 c.loop-octet-test.true) (Fed-trans _ _ _ _ _ _ _ s.1 e.1),
        Appends-trans _ _ _ _ _ s.2 e.2,
      );
    }
