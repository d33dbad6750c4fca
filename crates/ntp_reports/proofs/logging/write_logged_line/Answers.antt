use Rattle.std.proofs.Common.{subst, sym, ap}
use Rattle.std.specs.{Prelude.option_copied, Io.KnownBytes.Appends}
use Rattle.std.proofs.lemmas.Result.{on_ok_weaker}
use Rattle.ntp_reports.specs.Logging.{logged_command}
use Rattle.ntp_reports.proofs.LogLines.{beginning, line-with, line-without}
use Rattle.ntp_reports.proofs.logging.write_logged_line.Goals.{in-Some+in_ok-write_command, in_default}
use Rattle.ntp_reports.proofs.logging.write_logged_line.Goals as goal

pub returns : goal.returns
returns g c = elim c.match-command.branch [
  | in-Some+in_ok-write_command w ↦
      let s = w.in_ok-write_command.ensures in
      on_ok_weaker c.write_outcome.result
      (line-with _ _ _ _ c.args.number _ _ _ (ap option_copied w.in-Some.is) c.in_ok-write.ensures.bytes
      (subst (λ x. Appends (g.W.Write.contents c.write.new.self) (g.W.Write.contents x) (logged_command w.in-Some.command.now)) (sym w.out-is) s))
      c.write_outcome.ensures
  | in_default w ↦ on_ok_weaker c.write_outcome.result
      (line-without _ _ _ c.args.number _ _ (ap option_copied w.in_default.is)
      (subst (λ x. Appends (g.W.Write.contents c.args.out.now) (g.W.Write.contents x) (beginning c.args.number)) (sym w.out-is)
      c.in_ok-write.ensures.bytes)) c.write_outcome.ensures
]
