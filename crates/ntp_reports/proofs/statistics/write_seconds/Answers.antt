use Rattle.std.proofs.lemmas.Result.{on_ok_weaker}
use Rattle.ntp_reports.proofs.Lines.{seconds_line}
use Rattle.ntp_reports.proofs.statistics.write_seconds.Goals as goal

pub returns : goal.returns
returns g c =
    on_ok_weaker c.writeln.result (seconds_line _ _ c.args.name.now c.args.sign.now c.args.nanos) (rw c.laid_out.ensures at c.writeln.ensures.bytes)
