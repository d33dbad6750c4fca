use Rattle.std.proofs.Common.{rules}
use Rattle.ntp_admin.proofs.LinesApplied.{Due-text, Due-fewer, Due-none}
use Rattle.ntp_admin.proofs.commands.commands_step.Goals as goal

pub returns-then-is_none-clause-due : goal.returns-then-is_none-clause-due
returns-then-is_none-clause-due g c = Due-none _ _ _ _ (search rules)

pub returns-in-Some-clause-due : goal.returns-in-Some-clause-due
returns-in-Some-clause-due g c =
    Due-text _ _ _ c.args.octets.now c.in-Some.due.now _ _ _ (search rules) c.in-Some.ensures.behind c.carry_out_lines.ensures.count
    c.carry_out_lines.ensures.lines

pub returns-in-None-clause-due : goal.returns-in-None-clause-due
returns-in-None-clause-due g c = Due-fewer _ _ c.args.octets.now _ (search rules) c.in-None.ensures.fewer
