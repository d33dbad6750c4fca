use Rattle.std.proofs.Common.{rules}
use Rattle.std.proofs.lemmas.Result.{on_ok_weaker}
use Rattle.ntp_reports.proofs.LogLines.{with-number, with-none, of-command}
use Rattle.ntp_reports.proofs.logging.write_command.Goals as goal

pub returns-in-Some : goal.returns-in-Some
returns-in-Some g c =
    on_ok_weaker c.write.result
    (λ e. of-command _ _ c.args.command.now c.word-word.result.now c.address.result c.number_named.result c.word-word.ensures c.address.ensures
    c.number_named.ensures (with-number _ _ c.word-word.result.now c.address.result _ c.in-Some.number (search rules) c.in-Some.is e))
    c.write.ensures.bytes

pub returns-in-None : goal.returns-in-None
returns-in-None g c =
    on_ok_weaker c.write-in-None.result
    (λ e. of-command _ _ c.args.command.now c.word-word.result.now c.address.result c.number_named.result c.word-word.ensures c.address.ensures
    c.number_named.ensures (with-none _ _ c.word-word.result.now c.address.result _ (search rules) c.in-None.is e))
    c.write-in-None.ensures.bytes
