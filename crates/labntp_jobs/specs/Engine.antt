-- Not to be believed: for proofs. What an engine does with octets, in steps.
use Rattle.std.specs.Prelude.{◌≡◌, ℕ, ◌+◌, List, [], ◌++◌, length}
use Rattle.ntp_service.specs.{Registry.Registry, Headline.StandsFor}
use Rattle.labntp_jobs.specs.{declared.engine.Engine.Engine, declared.replaying.ReplayFaultKind.ReplayFaultKind, Script.lines_of}
use Rattle.labntp_jobs.specs.Replay.{Replays, Causes}

-- whatever lines were replayed before, these then are too
pub record AnswersLines (A : Type 0) (old : Registry) (lines : List (List ℕ)) (written : List ℕ) (new : Registry) : Type 0 where
  pub replays : (before : List (List ℕ)) (so_far : List ℕ) → Replays A before so_far old
      → Replays A (before ++ lines) (so_far ++ written) new

-- whatever lines were replayed before, this is why these were not
pub record Halts (A : Type 0) (kind : ReplayFaultKind) (old : Registry) (lines : List (List ℕ)) (part : List ℕ) : Type 0 where
  pub cause : (before : List (List ℕ)) (so_far : List ℕ) → Replays A before so_far old
      → Causes A kind before so_far lines part

-- an engine that took nothing yet
pub record IsUnfed {A : Type 0} (e : Engine A) : Type 0 where
  pub stands : StandsFor {A = A} e.service []
  pub line : e.line.items ≡ []
  pub done : e.done ≡ 0

-- fed these octets, the engine wrote this for the lines that they ended, whatever octets follow
pub record Fed {A : Type 0} (old new : Engine A) (octets written : List ℕ) : Type 0 where
  pub lines : List (List ℕ)
  pub split : (more : List ℕ) → lines_of (old.line.items ++ (octets ++ more)) ≡ lines ++ lines_of (new.line.items ++ more)
  pub answers : AnswersLines A old.service lines written new.service
  pub counted : new.done ≡ old.done + length lines

-- fed these octets, the engine stopped, and had written this; whatever octets follow, the fault is why the line
-- after those that were answered was not
pub record Stops {A : Type 0} (kind : ReplayFaultKind) (old new : Engine A) (octets written : List ℕ) : Type 0 where
  pub lines : List (List ℕ)
  pub so_far : List ℕ
  pub part : List ℕ
  pub service : Registry
  pub split : (more : List ℕ) → (others : List (List ℕ))
      × (lines_of (old.line.items ++ (octets ++ more)) ≡ lines ++ others) × Halts A kind service others part
  pub answers : AnswersLines A old.service lines so_far service
  pub counted : new.done ≡ old.done + length lines
  pub wrote : written ≡ so_far ++ part
