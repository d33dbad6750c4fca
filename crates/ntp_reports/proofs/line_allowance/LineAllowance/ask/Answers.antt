use Rattle.std.proofs.Common.{rules, [], ◌∷◌}
use Rattle.ntp_reports.proofs.line_allowance.LineAllowance.ask.Goals as goal

pub returns-in-0-clause-left : goal.returns-in-0-clause-left
returns-in-0-clause-left c [] left = search rules
returns-in-0-clause-left c (last ∷ asks) left = search rules

pub returns-in_default-clause-left : goal.returns-in_default-clause-left
returns-in_default-clause-left c [] left = search rules
returns-in_default-clause-left c (last ∷ asks) left = search rules
