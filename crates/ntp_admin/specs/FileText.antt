-- Which octets a file may have.
use Rattle.std.specs.Prelude.{ℕ, ◌≤◌, List, length, IsUtf8}

-- how many octets a file has at most (profile)
abbrev pub most_file_octets : ℕ
most_file_octets = 1048576

-- the octets of a register file, or of a commands file, that is looked into
pub record IsText (octets : List ℕ) : Type 0 where
  pub within : length octets ≤ most_file_octets
  pub utf8 : IsUtf8 octets
