-- Not to be believed: for proofs. What becomes of one line.
use Rattle.std.specs.Prelude.{◌≡◌, ℕ, Bool, true, false, Option, Some, None, List, [], ◌++◌, Ok}
use Rattle.ntp_service.specs.declared.event.Event.{Event}
use Rattle.ntp_admin.specs.{Words.words, Spells.is_passed_over, Spells.event_in}
use Rattle.labntp_jobs.specs.{declared.replaying.ReplayFaultKind.ReplayFaultKind, Script.IsReadable}
use Rattle.labntp_jobs.specs.declared.replaying.ReplayFaultKind.TheVariants.{Line, Read, Write, NoMemory, LineLong, NotUtf8}

-- a line that is readable is passed over, or spells an event
abbrev pub Judges : {A : Type 0} → List ℕ → Option (Event A) → Type 0
Judges line None = IsReadable line × (is_passed_over line ≡ true)
Judges line (Some event) = IsReadable line × (is_passed_over line ≡ false) × (event_in (words line) ≡ Ok event)

-- writing a text was cut short behind this part
abbrev pub CutsShort : ReplayFaultKind → List ℕ → List ℕ → Type 0
CutsShort (Line fault) text part = ⊥
CutsShort Read text part = ⊥
CutsShort Write text part = (rest : List ℕ) × (text ≡ part ++ rest)
CutsShort NoMemory text part = part ≡ []
CutsShort LineLong text part = ⊥
CutsShort NotUtf8 text part = ⊥

-- a fault that is not the reader's, and is the writer's only where that has failed
abbrev pub IsPastReading : Bool → ReplayFaultKind → Type 0
IsPastReading failed (Line fault) = Unit {0}
IsPastReading failed Read = ⊥
IsPastReading failed Write = failed ≡ true
IsPastReading failed NoMemory = Unit {0}
IsPastReading failed LineLong = Unit {0}
IsPastReading failed NotUtf8 = Unit {0}
