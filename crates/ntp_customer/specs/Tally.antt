-- Counts per window, and what is kept of them. Events are given by their windows, oldest first.
use Rattle.std.specs.Prelude.{ℕ, ◌≤◌, ◌==◌, List, Option, None, option_map, IfSome, min}
use Rattle.std.specs.List.{suffix_len, last_or}
use Rattle.ntp_customer.specs.declared.window.Counted.{Counted}

-- where counting stops: above every budget (profile)
abbrev pub most_counted : ℕ
most_counted = 65536

-- the count in a window: how many of the newest events lie in it without a gap (profile)
unfoldable pub count_in : List ℕ → ℕ → ℕ
count_in windows w = suffix_len (λ v. v == w) windows

-- the count as it is kept (profile)
abbrev pub capped_count : List ℕ → ℕ → ℕ
capped_count windows w = min (count_in windows w) most_counted

-- what is kept of events: the newest window, with the count in it as it is kept, or nothing where there are none (profile)
abbrev pub Tally : Type 0
Tally = Option Counted

-- the newest window, with the count in it as it is kept (profile)
unfoldable pub tally : List ℕ → Tally
tally windows = option_map (λ w. record { window = w; count = capped_count windows w }) (last_or None windows)

-- a tally has a count from 1 to the most that is counted
abbrev pub IsTally : Tally → Type 0
IsTally t = IfSome t (λ k. (1 ≤ k.count) × (k.count ≤ most_counted))
