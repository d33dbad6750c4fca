-- The lines that answer lines of commands.
use Rattle.std.specs.Prelude.{◌≡◌, ℕ, List, ◌++◌, Option, None, Some, IfNone, IfSome, codes}
use Rattle.std.specs.{Fmt.decimal, Io.KnownBytes.Appends}
use Rattle.ntp_admin.specs.Answers.{line_feed}
use Rattle.ntp_service.specs.{declared.observation.LineOutcome.LineOutcome, Vocabulary.refusal_word, Vocabulary.line_fault_word}
use Rattle.ntp_service.specs.declared.observation.LineOutcome.TheVariants.{Done, Refused, Faulty}
use Rattle.ntp_reports.specs.declared.answer_lines.AnswerLines.{AnswerLines}

-- what became of a line of commands: in the words of a replay where it is a command
abbrev pub line_outcome_text : LineOutcome → List ℕ
line_outcome_text Done = codes "done"
line_outcome_text (Refused refusal) = codes "refused " ++ refusal_word refusal
line_outcome_text (Faulty fault) = codes "faulty " ++ line_fault_word fault

-- the line that answers the line with a number
abbrev pub answer_line : ℕ → LineOutcome → List ℕ
answer_line number outcome = decimal number ++ codes " " ++ line_outcome_text outcome ++ line_feed

-- the line with a number was answered: where no write has failed, the answer was written, and every write before went well
pub record AnswersLine {W : Type 0} (contents : W → Option (List ℕ)) (number : ℕ) (outcome : LineOutcome) (old new : AnswerLines W) : Type 0 where
  pub written : IfNone new.fault (Appends (contents old.answers) (contents new.answers) (answer_line number outcome))
  pub noted : IfNone new.fault (old.fault ≡ None)
  pub first : IfSome old.fault (λ fault. new.fault ≡ Some fault)
