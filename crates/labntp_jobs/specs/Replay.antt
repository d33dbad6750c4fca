-- What a replay of a script's lines writes, and where it stops.
use Rattle.std.specs.Prelude.{◌≡◌, ◌⊎◌, ℕ, ◌+◌, ◌-◌, ◌^◌, ◌≤◌, ◌<◌, false, List, [], ◌∷◌, ◌++◌, length, All, not, map, filter, flat_map, Ok, Err, IsUtf8}
use Rattle.std.specs.List.{AllZip}
use Rattle.ntp_service.specs.{Registry.Registry, declared.event.Event.Event, declared.outcome.Outcome.Outcome, Headline.Tells}
use Rattle.ntp_service.specs.declared.line_fault.LineFault.TheVariants as line_fault
use Rattle.ntp_admin.specs.{Words.words, Spells.is_passed_over, Spells.event_in, Answers.outcome_text}
use Rattle.ntp_admin.specs.CommandsFile.{most_line_octets}
use Rattle.labntp_jobs.specs.{declared.replaying.ReplayFault.ReplayFault, declared.replaying.ReplayFaultKind.ReplayFaultKind}
use Rattle.labntp_jobs.specs.Script.{IsReadable}
use Rattle.labntp_jobs.specs.declared.replaying.ReplayFaultKind.TheVariants.{Line, Read, Write, NoMemory, LineLong, NotUtf8}

-- how many reads of a text there are at most
abbrev pub most_reads : ℕ
most_reads = 2 ^ 32 - 1

-- the lines were replayed: those that are events spell the events of what happened, as a service tells it that began with no customers,
-- and what was written is the outcomes' texts, one after another
pub record Replays (A : Type 0) (lines : List (List ℕ)) (written : List ℕ) (service : Registry) : Type 0 where
  pub happened : List (Event A × Outcome)
  pub readable : All IsReadable lines
  pub spelled : AllZip (λ line event. event_in (words line) ≡ Ok event) (filter (λ line. not (is_passed_over line)) lines)
      (map (λ p. p.0) happened)
  pub tells : Tells [] happened service
  pub texts : written ≡ flat_map (λ p. outcome_text p.1) happened

-- why no more lines were answered, where some were replayed before and others follow; `part` was written for
-- the first of those
abbrev pub Causes : (A : Type 0) → ReplayFaultKind → List (List ℕ) → List ℕ → List (List ℕ) → List ℕ → Type 0
Causes A Read before so_far lines part = part ≡ []
Causes A NoMemory before so_far lines part = part ≡ []
Causes A (Line fault) before so_far (line ∷ lines) part = (part ≡ []) × IsReadable line × (is_passed_over line ≡ false)
    × ((fault ≡ line_fault.NoMemory) ⊎ (event_in {A = A} (words line) ≡ Err fault))
Causes A Write before so_far (line ∷ lines) part = (answer rest : List ℕ) × (service : Registry)
    × Replays A (before ++ line ∷ []) (so_far ++ answer) service × (answer ≡ part ++ rest)
Causes A LineLong before so_far (line ∷ lines) part = (part ≡ []) × (most_line_octets < length line)
Causes A NotUtf8 before so_far (line ∷ lines) part = (part ≡ []) × (length line ≤ most_line_octets) × (IsUtf8 line → ⊥)
Causes A other before so_far [] part = ⊥

-- the lines before the one that the fault names were replayed, and the fault is why no more were answered
pub record StopsAt (A : Type 0) (fault : ReplayFault) (lines : List (List ℕ)) (written : List ℕ) : Type 0 where
  pub before : List (List ℕ)
  pub others : List (List ℕ)
  -- what was written for the lines before, and for the one that is named
  pub so_far : List ℕ
  pub part : List ℕ
  pub service : Registry
  pub split : lines ≡ before ++ others
  pub named : fault.line ≡ length before + 1
  pub replays : Replays A before so_far service
  pub cause : Causes A fault.kind before so_far others part
  pub wrote : written ≡ so_far ++ part
