use Rattle.std.specs.{Prelude.flat_map, Prelude.take, Prelude.map, Io.KnownBytes.Appends}
use Rattle.ntp_reports.specs.Statistics.{labelled}
use Rattle.ntp_reports.proofs.statistics.write_labelled.Given as goal

abbrev pub invariant-loop-key : goal.invariant-loop-key
invariant-loop-key g l =
    Appends (g.W.Write.contents l.fn.out) (g.W.Write.contents l.out)
    (flat_map (labelled l.name) (map (λ s. (s.0.now, s.1.now, s.2)) (take l.key-index l.samples)))
