use Rattle.std.proofs.lemmas.Result.{on_ok_weaker}
use Rattle.ntp_reports.proofs.Lines.{metric-lines}
use Rattle.ntp_reports.proofs.statistics.write_metric.Goals as goal

pub returns : goal.returns
returns g c =
    on_ok_weaker c.write_samples.result
    (metric-lines _ _ _ c.args.metric.now.name.now c.args.metric.now.help.now c.args.metric.now.sort.now _ c.in_ok-write.ensures.bytes)
    c.write_samples.ensures
