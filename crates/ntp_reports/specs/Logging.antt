-- What the log tells of lines of commands.
use Rattle.std.specs.Prelude.{ℕ, ◌+◌, ◌-◌, ◌^◌, min, List, [], ◌++◌, Option, Some, codes}
use Rattle.std.specs.{Option.option_map_or, Fmt.decimal}
use Rattle.ntp_service.specs.declared.command.Command.{Command}
use Rattle.ntp_service.specs.declared.command.Command.TheVariants.{Enrol, Revoke}
use Rattle.ntp_service.specs.{Commands.address_named, Commands.number_named, Vocabulary.command_word}
use Rattle.ntp_service.specs.{declared.observation.LineOutcome.LineOutcome, declared.observation.LineOutcome.TheVariants.Done}
use Rattle.ntp_admin.specs.Words.{address_text, number_behind}
use Rattle.ntp_reports.specs.AnswerText.{line_outcome_text}

-- what is told of a command: all but its key and its budget
abbrev pub logged_command : Command → List ℕ
logged_command c = command_word c ++ codes " " ++ address_text (address_named c) ++ number_behind (number_named c) ++ codes ": "

-- the line of the log, without its line feed, that tells of the line with a number: its command, if it is one, and what became of it
abbrev pub logged_line : ℕ → Option Command → LineOutcome → List ℕ
logged_line number command outcome =
    codes "commands: line " ++ decimal number ++ codes ": " ++ option_map_or logged_command command [] ++ line_outcome_text outcome

-- how many customers are enrolled after a line, with `customers` before it, up to 2^64 - 1
abbrev pub customers_after : ℕ → Option Command → LineOutcome → ℕ
customers_after customers (Some (Enrol address number key budget)) Done = min (customers + 1) (2 ^ 64 - 1)
customers_after customers (Some (Revoke address)) Done = customers - 1
customers_after customers other outcome = customers
