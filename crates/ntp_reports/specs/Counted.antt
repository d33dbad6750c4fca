-- What counts are of.
use Rattle.std.specs.Prelude.{◌≡◌, ℕ, ◌+◌, ◌-◌, ◌^◌, min, List, [], ◌∷◌, ◌++◌, flat_map, count_by, slice_index}
use Rattle.std.proofs.Math.ListN.{replicate}
use Rattle.ntp_service.specs.declared.observation.Observation.{Observation}
use Rattle.ntp_reports.specs.{declared.kind.Kind.Kind, declared.counts.Counts.Counts}
use Rattle.ntp_reports.specs.Kinds.{is_kind, kinds_of, place_of}

-- the counts of nothing
abbrev pub nothing_counted : Counts
nothing_counted = record { by_kind = replicate 30 0 }

-- the count of a kind
abbrev pub count_at : Counts → Kind → ℕ
count_at counts kind = slice_index counts.by_kind (place_of kind)

-- the counts are those of these observations: each is how many there are of its kind among what they are counted as, or 2^64 - 1 where
-- there are more; no server makes as many turns
pub record AreCounts (counts : Counts) (seen : List Observation) : Type 0 where
  pub each : (kind : Kind) → count_at counts kind ≡ min (count_by (is_kind kind) (flat_map kinds_of seen)) (2 ^ 64 - 1)

-- one observation more was counted: whatever the counts were of, they are of that and this one
pub record CountsOneMore (old new : Counts) (more : Observation) : Type 0 where
  pub counted : (seen : List Observation) → AreCounts old seen → AreCounts new (seen ++ more ∷ [])

-- these kinds were counted, whatever was before; no public clause cites this
pub record Adds (old new : Counts) (kinds : List Kind) : Type 0 where
  pub each : (kind : Kind) (before : ℕ) → count_at old kind ≡ min before (2 ^ 64 - 1)
      → count_at new kind ≡ min (before + count_by (is_kind kind) kinds) (2 ^ 64 - 1)
