use Rattle.std.proofs.Common.{arith}
use Rattle.ntp_reports.specs.Statistics.{labelled}
use Rattle.ntp_reports.proofs.Lines.{Appends-more-map, labelled-line}
use Rattle.ntp_reports.proofs.statistics.write_labelled.Goals as goal

pub loop-key-preserved : goal.loop-key-preserved
loop-key-preserved g c =
    Appends-more-map (labelled c.args.name.now) (λ s. (s.0.now, s.1.now, s.2)) _ _ _ c.args.samples.now c.loop-key.key-index _ (omega arith)
    c.loop-key.invariant (labelled-line _ _ c.args.name.now _ _ _ c.in_ok-writeln.ensures.bytes)
