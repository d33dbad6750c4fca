use Rattle.std.proofs.Common.{◌+◌, ◌-◌, length, drop, arith}
use Rattle.std.proofs.lemmas.List.{length-drop, take_all}
use Rattle.ntp_admin.proofs.LinesCut.{complete_lines-none, complete_lines-at}
use Rattle.ntp_admin.proofs.commands.first_line.Goals as goal

pub returns-in_err-end-clause-cut : goal.returns-in_err-end-clause-cut
returns-in_err-end-clause-cut c = rw c.from_residual.ensures (complete_lines-none c.args.octets.now c.in_err-end.ensures)

pub returns-clause-cut : goal.returns-clause-cut
returns-clause-cut c =
    let at = complete_lines-at c.args.octets.now c.in_ok-end.end c.in_ok-end.ensures in
    let all = take_all (length c.args.octets.now - (c.in_ok-end.end + 1)) (drop (c.in_ok-end.end + 1) c.args.octets.now)
    (omega (arith, length-drop (c.in_ok-end.end + 1) c.args.octets.now)) in
    rw all at.1
