-- What a replay by the program ends with.
use Rattle.std.specs.Prelude.{◌≡◌, ◌⊎◌, ℕ, List}
use Rattle.ntp_service.specs.Registry.{Registry}
use Rattle.ntp_service.specs.declared.line_fault.LineFault.TheVariants as line_fault
use Rattle.labntp_jobs.specs.{declared.replaying.ReplayFault.ReplayFault, declared.replaying.ReplayFaultKind.ReplayFaultKind}
use Rattle.labntp_jobs.specs.{Script.lines_of, Replay.Replays, Replay.StopsAt}
use Rattle.labntp_jobs.specs.declared.replaying.ReplayFaultKind.TheVariants.{Line, Read, Write, NoMemory}

-- the status for what stopped a replay: 3 for a read or a write, 4 for want of memory, 1 for the text
abbrev pub status_of : ReplayFaultKind → ℕ
status_of Read = 3
status_of Write = 3
status_of NoMemory = 4
status_of (Line line_fault.NoMemory) = 4
status_of other = 1

-- a replay of a text ends with a status, and wrote this: with 0 only where the whole text was replayed, and else with that
-- of a fault that stopped it
abbrev pub Ends : (A : Type 0) → List ℕ → List ℕ → ℕ → Type 0
Ends A text written status =
    ((status ≡ 0) × (service : Registry) × Replays A (lines_of text) written service)
    ⊎ ((fault : ReplayFault) × (status ≡ status_of fault.kind) × StopsAt A fault (lines_of text) written)
