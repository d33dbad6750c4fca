use Rattle.std.proofs.Common.{arith, length, ap}
use Rattle.std.proofs.lemmas.List.{length-drop}
use Rattle.ntp_admin.specs.CommandsFile.{complete_lines}
use Rattle.ntp_admin.proofs.LinesCut.{behind-more}
use Rattle.ntp_admin.proofs.commands.behind.Goals as goal

pub loop-line-preserved : goal.loop-line-preserved
loop-line-preserved c =
    let one = behind-more (complete_lines c.args.octets.now) _ _ _ c.loop-line._line c.loop-line.invariant.behind c.in_ok-others.ensures.cut in
    record { many = one.0; behind = one.1 }

pub returns-in_err-others-clause-fewer : goal.returns-in_err-others-clause-fewer
returns-in_err-others-clause-fewer c =
    rw c.from_residual.ensures (omega (
      arith,
      ap length c.loop-line.invariant.behind,
      ap length c.in_err-others.ensures.cut,
      length-drop c.loop-line._line (complete_lines c.args.octets.now),
    ))
