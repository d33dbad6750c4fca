-- How many lines of a kind may be written. Asks for a line are told by their minutes, the newest first.
use Rattle.std.specs.Prelude.{◌≡◌, ℕ, ◌-◌, ◌^◌, min, ◌==◌, List, [], ◌∷◌, nat_lt, slice_get, IfSome, if◌then◌else◌}
use Rattle.std.specs.List.{prefix_len}
use Rattle.ntp_reports.specs.{declared.line_allowance.Ask.Ask, declared.line_allowance.LineAllowance.LineAllowance}
use Rattle.ntp_reports.specs.declared.line_allowance.Ask.TheVariants.{Say, Hold, SayWithMore}

-- how many lines of a kind are written in a minute
abbrev pub most_lines : ℕ
most_lines = 10

-- how many of the last asks, in a row, were made in a minute; a count stops at 2^64 - 1
abbrev pub asks_made_in : ℕ → List ℕ → ℕ
asks_made_in minute asks = min (prefix_len (λ m. m == minute) asks) (2 ^ 64 - 1)

-- how many lines were held in the last minute in which one was asked for
abbrev pub held_back_in : List ℕ → ℕ
held_back_in [] = 0
held_back_in (last ∷ asks) = asks_made_in last (last ∷ asks) - most_lines

-- the first line of a minute is written, and tells how many were held before
abbrev pub first_answer : ℕ → Ask
first_answer held = if nat_lt 0 held then SayWithMore held else Say

-- what an ask in a minute is answered, behind these: the first ten lines of a minute are written, and no more
abbrev pub ask_answer : List ℕ → ℕ → Ask
ask_answer asks minute =
    if asks_made_in minute asks == 0 then first_answer (held_back_in asks) else (if nat_lt (asks_made_in minute asks) most_lines then Say else Hold)

-- an allowance is what these asks leave of it: the minute of the last one, if there was one, and how many were made in it
pub record IsLeftBy (asks : List ℕ) (allowance : LineAllowance) : Type 0 where
  pub last : IfSome (slice_get asks 0) (λ last. last ≡ allowance.minute)
  pub asked : allowance.asked ≡ asks_made_in allowance.minute asks
