-- What one who counts, answers and reports does with an observation.
use Rattle.std.specs.Prelude.{◌≡◌, ℕ, List, Option}
use Rattle.ntp_service.specs.declared.observation.Observation.{Observation}
use Rattle.ntp_service.specs.declared.observation.Observation.TheVariants.{Line, Turn}
use Rattle.ntp_reports.specs.{AnswerText.AnswersLine, Logging.customers_after, Reported.ReportsLine, Reported.ReportsTurn, Reported.IfThere}
use Rattle.ntp_reports.specs.declared.answer_lines.AnswerLines.{AnswerLines}
use Rattle.ntp_reports.specs.declared.customer_counts.CustomerCounts.{CustomerCounts}

-- where lines are answered, each is
abbrev pub AnswersThis : {W : Type 0} → (W → Option (List ℕ)) → Observation → Option (AnswerLines W) → Option (AnswerLines W) → Type 0
AnswersThis contents (Line number command outcome) old new = IfThere (AnswersLine contents number outcome) old new
AnswersThis contents (Turn outcome) old new = new ≡ old

-- where customers are reported on, each line and each turn is
abbrev pub ReportsThis : {A : Type 0} → Observation → Option (CustomerCounts A) → Option (CustomerCounts A) → Type 0
ReportsThis (Line number command outcome) old new = IfThere (ReportsLine number command outcome) old new
ReportsThis (Turn outcome) old new = IfThere (ReportsTurn outcome) old new

-- a turn leaves what hears of lines alone as it is
abbrev pub IsLeftByTurns : {T : Type 0} → Observation → T → T → Type 0
IsLeftByTurns (Line number command outcome) old new = Unit {0}
IsLeftByTurns (Turn outcome) old new = new ≡ old

-- how many customers are enrolled then
abbrev pub customers_then : ℕ → Observation → ℕ
customers_then customers (Line number command outcome) = customers_after customers command outcome
customers_then customers (Turn outcome) = customers
