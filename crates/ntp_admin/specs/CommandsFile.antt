-- What a commands file orders.
use Rattle.std.specs.Prelude.{◌≡◌, ℕ, ◌+◌, ◌-◌, ◌^◌, min, max, nat_lt, List, [], ◌∷◌, ◌++◌, length, map, flat_map, take, drop, if◌then◌else◌, Option, None, Some, Result, Ok, Err, codes}
use Rattle.std.specs.{Fmt.decimal, Str.is_utf8}
use Rattle.ntp_service.specs.{declared.refusal.Refusal.Refusal, Registry.Registry}
use Rattle.ntp_service.specs.{Vocabulary.refusal_word, Vocabulary.line_fault_word, declared.command.Command.Command}
use Rattle.ntp_service.specs.{declared.event.Event.Event, declared.line_fault.LineFault.LineFault}
use Rattle.ntp_service.specs.declared.line_fault.LineFault.TheVariants.{LineLong, NotUtf8}
use Rattle.ntp_service.specs.{declared.outcome.Outcome.Outcome, declared.observation.LineOutcome.LineOutcome}
use Rattle.ntp_service.specs.declared.observation.Observation.{Observation}
use Rattle.ntp_admin.specs.{Words.words, Words.parts, Spells.command_in, Spells.is_passed_over, Answers.line_feed}
use Rattle.ntp_admin.specs.FileText.{most_file_octets, IsText}
use Rattle.ntp_service.specs.declared.event.Event.TheVariants as event
use Rattle.ntp_service.specs.declared.observation.LineOutcome.TheVariants.{Done, Refused, Faulty}
use Rattle.ntp_service.specs.declared.observation.Observation.TheVariants.{Line}
use Rattle.ntp_service.specs.Headline.{StandsFor, Tells, command_outcome}

-- the lines that a line feed ends: what stands between line feeds, without the last such piece
abbrev pub complete_lines : List ℕ → List (List ℕ)
complete_lines text = let pieces = parts 10 text in take (length pieces - 1) pieces

-- how many octets a line has at most, without its line feed (profile)
abbrev pub most_line_octets : ℕ
most_line_octets = 4096

-- what a line is read as: nothing where it is passed over, else a command, or the first fault
abbrev pub line_reading : ℕ → List ℕ → Option (Result Command LineFault)
line_reading most line = if is_passed_over line then None else Some (if nat_lt most (length line) then Err LineLong
    else if is_utf8 line then command_in (words line) else Err NotUtf8)

-- how many lines there are once more follow: what 64 bits do not hold stays at the most that they hold
abbrev pub count_on : ℕ → ℕ → ℕ
count_on lines more = min (lines + more) (2 ^ 64 - 1)

-- a line that was taken, and what its command came to, which says nothing where it is none
pub record TakenLine : Type 0 where
  pub line : List ℕ
  pub result : Result (Unit {0}) Refusal

-- what happened at a line that is read so: its command, if it is one, with what it came to
abbrev pub happened_read : {A : Type 0} → Option (Result Command LineFault) → Result (Unit {0}) Refusal → List (Event A × Outcome)
happened_read (Some (Ok command)) result = (event.Command command, command_outcome result) ∷ []
happened_read other result = []

-- what a command came to
abbrev pub carried_out : Result (Unit {0}) Refusal → LineOutcome
carried_out (Ok done) = Done
carried_out (Err refusal) = Refused refusal

-- what an observer hears of a line with a number, read so: its command, if it is one, and what became of it
abbrev pub observed_read : ℕ → Option (Result Command LineFault) → Result (Unit {0}) Refusal → List Observation
observed_read number None result = []
observed_read number (Some (Ok command)) result = Line number (Some command) (carried_out result) ∷ []
observed_read number (Some (Err fault)) result = Line number None (Faulty fault) ∷ []

-- what happened at lines of at most `most` octets, in their order
abbrev pub happened_at_lines : {A : Type 0} → ℕ → List TakenLine → List (Event A × Outcome)
happened_at_lines most taken = flat_map (λ t. happened_read (line_reading most t.line) t.result) taken

-- what an observer hears of them, where `before` lines stand in front of the first
abbrev pub line_observations : ℕ → ℕ → List TakenLine → List Observation
line_observations most before [] = []
line_observations most before (t ∷ taken) =
    observed_read (count_on before 1) (line_reading most t.line) t.result ++ line_observations most (count_on before 1) taken

-- these lines were carried out, each once: whatever history the service stood for, it tells what happened at them, and an observer heard
-- what became of each
pub record CarriesOut (A : Type 0) (most before : ℕ) (lines : List (List ℕ)) (old new : Registry) (Heard : List Observation → Type 0) : Type 0 where
  pub taken : List TakenLine
  pub these : map (λ t. t.line) taken ≡ lines
  pub observed : Heard (line_observations most before taken)
  pub tells : (history : List (Event A)) → StandsFor old history → Tells history (happened_at_lines most taken) new

-- the lines that are due in a file's octets were carried out, where `applied` are applied, and `after` once they were taken: of a
-- text, its complete lines behind those; of other octets none. Each may be as long as the file
pub record CarriesOutDue (A : Type 0) (applied : ℕ) (octets : List ℕ) (after : ℕ) (old new : Registry) : Type 0 where
  pub lines : List (List ℕ)
  pub text : IsText octets → (lines ≡ drop applied (complete_lines octets)) × (after ≡ max applied (length (complete_lines octets)))
  pub other : ¬ IsText octets → (lines ≡ []) × (after ≡ applied)
  pub carried : CarriesOut A most_file_octets applied lines old new (λ _. Unit {0})

-- the line that tells of a fault of the commands file
abbrev pub fault_line : ℕ → List ℕ → List ℕ
fault_line number word = codes "commands: line " ++ decimal number ++ codes ": " ++ word ++ line_feed

-- what is written of a line of commands: nothing where it was carried out
abbrev pub line_text : ℕ → LineOutcome → List ℕ
line_text number Done = []
line_text number (Refused refusal) = fault_line number (refusal_word refusal)
line_text number (Faulty fault) = fault_line number (line_fault_word fault)
