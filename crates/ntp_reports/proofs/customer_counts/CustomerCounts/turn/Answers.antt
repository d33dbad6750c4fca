use Rattle.std.proofs.Common.{refl, rules}
use Rattle.ntp_reports.proofs.Reports.{reports-turn, reports-nothing}
use Rattle.ntp_reports.proofs.customer_counts.CustomerCounts.turn.Goals.{in_default-via-in-NothingReceived-1, in_default-via-in-Answered+in-None-1}
use Rattle.ntp_reports.proofs.customer_counts.CustomerCounts.turn.Goals as goal

pub returns-in-Some : goal.returns-in-Some
returns-in-Some g c = reports-turn _ _ _ _ _ _ c.in-Answered.is (search rules) refl

pub returns-in_default : goal.returns-in_default
returns-in_default g c = elim c.in_default.branch [
  | in_default-via-in-NothingReceived-1 w ↦ rw w.self-is (search (rules, reports-nothing))
  | in_default-via-in-Answered+in-None-1 w ↦ rw w.self-is (reports-turn _ _ _ _ _ _ w.in-Answered.is (search rules) refl)
]
