use Rattle.std.specs.{Prelude.flat_map, Prelude.take, Io.KnownBytes.Appends}
use Rattle.ntp_reports.specs.Statistics.{metric_text}
use Rattle.ntp_reports.proofs.statistics.write_statistics.Given as goal

abbrev pub invariant-loop-metric : goal.invariant-loop-metric
invariant-loop-metric g l =
    Appends (g.W.Write.contents l.fn.out) (g.W.Write.contents l.out) (flat_map (metric_text l.counts) (take l.metric-index l.metric-items))
