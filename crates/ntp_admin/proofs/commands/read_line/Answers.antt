use Rattle.std.proofs.Common.{rules, arith}
use Rattle.ntp_admin.proofs.LinesApplied.{reads-text, reads-no-text}
use Rattle.ntp_admin.proofs.commands.read_line.Goals as goal

pub returns-in-Ok : goal.returns-in-Ok
returns-in-Ok c =
    reads-text c.args.most c.args.line.now c.in-Ok.text.now c.parse_command.result (search rules) (omega arith) c.in-Ok.ensures.cases.0
    c.in-Ok.ensures.cases.1 c.parse_command.ensures.only c.parse_command.ensures.fault

pub returns-in-Err : goal.returns-in-Err
returns-in-Err c = reads-no-text c.args.most c.args.line.now (search rules) (omega arith) c.in-Err.ensures.cases.0
