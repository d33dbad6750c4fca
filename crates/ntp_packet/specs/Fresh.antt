-- Fresh stamps: the first of a stamp and those after it that may be taken.
use Rattle.std.specs.Prelude.{◌≡◌, ℕ, ◌+◌, ◌%◌, ◌^◌, ◌<◌, ◌≤◌, Bool, not, ◌&&◌, ◌==◌, IsTrue, List, length, map, find, unwrap_or}
use Rattle.std.specs.List.{list_any, range_with_len}
use Rattle.ntp_packet.specs.declared.stamp.Stamp.{Stamp}

-- the stamp k units of 2^-32 seconds later, modulo 2^64 (profile)
abbrev pub later : Stamp → ℕ → Stamp
later s k = record { 0 = (s.0 + k) % 2 ^ 64 }

-- whether a stamp may be taken: it is not 0, and not in the list (profile)
unfoldable pub is_free : List Stamp → Stamp → Bool
is_free avoid s = not (s.0 == 0) && not (list_any (λ a. a.0 == s.0) avoid)

-- the first of s, s + 1, s + 2, .. modulo 2^64 that is free; where fewer than 2^64 - 1 are to be avoided, one of length avoid + 2
-- stamps is (profile)
unfoldable pub fresh : Stamp → List Stamp → Stamp
fresh s avoid = unwrap_or (find (is_free avoid) (map (later s) (range_with_len 0 (length avoid + 2)))) s

-- r is s + steps modulo 2^64 for the least number of steps at which it is free, at most length avoid + 1 (profile)
pub record IsFresh (s : Stamp) (avoid : List Stamp) (r : Stamp) : Type 0 where
  pub steps : ℕ
  pub few : steps ≤ length avoid + 1
  pub reached : r ≡ later s steps
  pub free : IsTrue (is_free avoid r)
  pub least : (j : ℕ) → j < steps → ¬ IsTrue (is_free avoid (later s j))

-- whether a test says of each stamp of 64 bits whether it is in the list
abbrev pub TellsTaken : (Stamp → Bool → Type 0) → List Stamp → Type 0
TellsTaken says taken = (s : Stamp) (r : Bool) → s.0 < 2 ^ 64 → says s r → r ≡ list_any (λ a. a.0 == s.0) taken
