-- Not to be believed: for proofs. What becomes of one line.
use Rattle.std.specs.Prelude.{ℕ, List, Result}
use Rattle.ntp_service.specs.{declared.refusal.Refusal.Refusal, Registry.Registry, declared.event.Event.Event}
use Rattle.ntp_service.specs.{declared.observation.Observation.Observation, Headline.StandsFor, Headline.Tells}
use Rattle.ntp_admin.specs.CommandsFile.{line_reading, happened_read, observed_read}

-- the line with a number was taken
abbrev pub AppliesLine : (A : Type 0) → ℕ → ℕ → List ℕ → Registry → Registry → (List Observation → Type 0) → Type 0
AppliesLine A most number line old new Heard = (result : Result (Unit {0}) Refusal)
    × Heard (observed_read number (line_reading most line) result)
    × ((history : List (Event A)) → StandsFor old history → Tells history (happened_read (line_reading most line) result) new)
