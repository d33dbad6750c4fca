-- The text of a script: its lines.
use Rattle.std.specs.Prelude.{ℕ, ◌≤◌, ◌==◌, List, [], ◌∷◌, length, if◌then◌else◌, IsUtf8}
use Rattle.ntp_admin.specs.CommandsFile.{most_line_octets}

-- an octet, and then lines: it begins the first of them
abbrev pub begin_line : ℕ → List (List ℕ) → List (List ℕ)
begin_line x [] = (x ∷ []) ∷ []
begin_line x (line ∷ lines) = (x ∷ line) ∷ lines

-- the lines of a text: each ends at a line feed, and what follows the last one is a line unless it is empty
abbrev pub lines_of : List ℕ → List (List ℕ)
lines_of [] = []
lines_of (x ∷ xs) = if x == 10 then [] ∷ lines_of xs else begin_line x (lines_of xs)

-- a line that a replay takes
pub record IsReadable (line : List ℕ) : Type 0 where
  pub within : length line ≤ most_line_octets
  pub text : IsUtf8 line
