use Rattle.std.proofs.Common.{arith}
use Rattle.std.proofs.{KnownBytes.Appends-nil, lemmas.List.take_all}
use Rattle.ntp_reports.specs.Statistics.{metric_text}
use Rattle.ntp_reports.proofs.Lines.{Appends-more}
use Rattle.ntp_reports.proofs.statistics.write_statistics.Goals as goal

pub loop-metric-init : goal.loop-metric-init
loop-metric-init g c = Appends-nil _

pub loop-metric-preserved : goal.loop-metric-preserved
loop-metric-preserved g c =
    Appends-more (metric_text c.args.counts.now) _ _ _ c.metrics.result c.loop-metric.metric-index _ (omega arith) c.loop-metric.invariant
    c.in_ok-write_metric.ensures

pub returns : goal.returns
returns g c = record {
  metrics = c.metrics.result;
  have = c.metrics.ensures;
  written = rw (take_all c.loop-metric.metric-index c.metrics.result (omega arith)) at c.loop-metric.invariant;
}
