-- How far a commands file is read, and what a look at it does.
use Rattle.std.specs.Prelude.{◌≡◌, ◌≢◌, ℕ, ◌+◌, ◌-◌, ◌≤◌, ◌<◌, ◌⊎◌, nat_le, if◌then◌else◌, Bool, true, false, IsTrue, Option, None, Some, IfSome, IsSomeAnd, List, [], ◌∷◌, ◌++◌, length, slice_get, slice_index, slice_range, take, drop, min}
use Rattle.std.specs.Option.{option_map_or}
use Rattle.ntp_host.specs.declared.{appended_file.FileState.FileState, progress.Progress.Progress, progress.TheConstants.MOST_COMMANDS_OCTETS}
use Rattle.ntp_host.specs.declared.commands_file.CommandsFault.{CommandsFault}
use Rattle.ntp_host.specs.declared.commands_file.CommandsFault.TheVariants.{Unreadable, Full}

-- a fault after which nothing is given any more
abbrev pub is_final : CommandsFault → Bool
is_final (Unreadable error) = false
is_final Full = false
is_final fault = true

-- the file could not be read, or there was no memory for its lines
abbrev pub is_unreadable : CommandsFault → Bool
is_unreadable (Unreadable error) = true
is_unreadable fault = false

-- how many octets stand in front of the next piece
abbrev pub next_from : Progress → ℕ
next_from p = if nat_le (p.given + 65536) p.searched then p.searched else p.given

-- octets are those that a file has behind the first `from` ones
abbrev pub StandsAt : List ℕ → ℕ → List ℕ → Type 0
StandsAt file from octets = octets ≡ slice_range file from (from + length octets)

-- no line of a file ends in a part of it
abbrev pub HasNoEnd : List ℕ → ℕ → ℕ → Type 0
HasNoEnd file from to = (k : ℕ) → from ≤ k → k < to → slice_index file k ≢ 10

-- a part of a file is given as it is, and ends with a line; or it is a line with more than 65,536 octets, and is cut to 4,097
abbrev pub GivesPart : List ℕ → ℕ → ℕ → List ℕ → Type 0
GivesPart file from to given = (from < to → slice_index file (to - 1) ≡ 10) × (((from ≤ to) × (given ≡ slice_range file from to))
    ⊎ (HasNoEnd file from (to - 1) × (from + 65536 < to) × (given ≡ take 4097 (drop from file) ++ 10 ∷ [])))

-- each line of a file with so many octets is given that ends in the first 65,536 of them behind the lines that were; where there are octets
-- that were not searched for the end of a line, some more of them are
abbrev pub GivesEach : List ℕ → ℕ → Progress → Progress → Type 0
GivesEach file end before after = ((k : ℕ) → k < end → k < before.given + 65536 → slice_index file k ≡ 10 → k < after.given)
    × (before.searched < end → before.given + before.searched < after.given + after.searched)

-- the first of the answers that are left
abbrev pub next_of : {X : Type 0} → List (Option X) → Option X
next_of left = option_map_or (λ x. x) (slice_get left 0) None

-- a call for a state answered this, as it was told
abbrev pub AnswersState : Option (List (Option FileState)) → Option (List (Option FileState)) → Option FileState → Type 0
AnswersState told later answer = IfSome told (λ left. (later ≡ Some (drop 1 left)) × (answer ≡ next_of left))

-- two states are of one file
abbrev pub IsOfFile : FileState → FileState → Type 0
IsOfFile known found = (found.device ≡ known.device) × (found.node ≡ known.node)

-- a look at a commands file led it from one state to another, and gave this; `last` is what it was found in before
pub record LooksAt {F : Type 0} (octets : F → Option (List ℕ)) (states : F → Option (List (Option FileState))) (old new : F)
    (before after : Progress) (last : FileState) (fault later : Option CommandsFault) (given : Option (List ℕ)) : Type 0 where
  pub same : octets new ≡ octets old
  -- it gives the next part of the file
  pub lines : IfSome (octets old) (λ file. GivesPart file before.given after.given (option_map_or (λ lines. lines) given []))
  -- where the file is given up, it stays so, and gives nothing
  pub ended : IfSome fault (λ it. IsTrue (is_final it) → (given ≡ None) × (new ≡ old) × (after ≡ before) × (later ≡ fault))
  -- else the look asks for a state once
  pub asks : IfSome fault (λ it. is_final it ≡ false) → IfSome (states old) (λ left. states new ≡ Some (drop 1 left))
  -- where that is the file's, which has not become shorter, each line in reach is given; or the file could not be read, or there was no
  -- memory for the lines, which is told
  pub due : IfSome fault (λ it. is_final it ≡ false) → IfSome (octets old) (λ file. IfSome (states old) (λ left. IfSome (next_of left) (λ found.
      IsOfFile last found → before.given ≤ found.length
      → IsSomeAnd later (λ it. IsTrue (is_unreadable it)) ⊎ GivesEach file (min found.length MOST_COMMANDS_OCTETS) before after)))
  -- where it is another file's, or the file has become shorter, that is told, and nothing is given any more
  pub stops : IfSome fault (λ it. is_final it ≡ false) → IfSome (states old) (λ left. IfSome (next_of left) (λ found.
      (¬ IsOfFile last found) ⊎ (found.length < before.given) → (given ≡ None) × IsSomeAnd later (λ it. IsTrue (is_final it))))
