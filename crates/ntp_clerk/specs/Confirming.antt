-- Which number a key gets, and which change needs a second word.
use Rattle.std.specs.Prelude.{◌≡◌, ◌⊎◌, ℕ, ◌≤◌, ◌<◌, Option, Some, None, option_map, List, Contains}
use Rattle.std.specs.declared.num.NonZeroU16.{NonZeroU16}
use Rattle.ntp_service.specs.Registry.{Registry, holder_of}
use Rattle.ntp_clerk.specs.declared.wanted.Terms.{Terms}

-- the lowest key number with a property
abbrev pub IsLowest : (ℕ → Type 0) → ℕ → Type 0
IsLowest P number = (1 ≤ number) × P number × ((smaller : ℕ) → 1 ≤ smaller → smaller < number → P smaller → ⊥)

-- a key number that nobody holds, and that was not used either
abbrev pub IsUnheld : Registry → ℕ → Type 0
IsUnheld service number = holder_of service number ≡ None

abbrev pub IsNew : List ℕ → Registry → ℕ → Type 0
IsNew used service number = IsUnheld service number × (Contains used number → ⊥)

-- the lowest that was never used and that nobody holds; where there is none, the lowest that nobody holds
abbrev pub IsNextFree : List ℕ → Registry → ℕ → Type 0
IsNextFree used service number = IsLowest (IsNew used service) number
    ⊎ (((each : ℕ) → 1 ≤ each → each ≤ 65535 → IsNew used service each → ⊥) × IsLowest (IsUnheld service) number)

-- the number of the key that is retired: the one that is named, else that of the older key
abbrev pub number_to_retire : Option Terms → Option NonZeroU16 → Option NonZeroU16
number_to_retire terms (Some number) = Some number
number_to_retire terms None = option_map (λ t. t.older.number) terms
