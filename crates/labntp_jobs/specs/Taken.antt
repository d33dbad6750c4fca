-- What a client took, in words.
use Rattle.std.specs.Prelude.{◌≡◌, ℕ, Option, List, [], ◌∷◌, ◌++◌, length, flat_map, codes, if◌then◌else◌}
use Rattle.std.specs.Io.KnownBytes.{Appends}
use Rattle.ntp_client.specs.declared.taken.Taken.{Taken}
use Rattle.ntp_client.specs.declared.taken.Taken.TheVariants as taken

-- the word for what a client took
abbrev pub word_of : Taken → List ℕ
word_of (taken.Sample sample) = if sample.interleaved then codes "interleaved" else codes "basic"
word_of taken.Rate = codes "rate"
word_of taken.Deny = codes "deny"
word_of taken.Nak = codes "nak"
word_of (taken.Refused why) = codes "refused"

-- a line with that word
abbrev pub line_of : Taken → List ℕ
line_of what = word_of what ++ 10 ∷ []

-- `times` lines were written, each with the word for something that a client takes
abbrev pub HasMet : ℕ → Option (List ℕ) → Option (List ℕ) → Type 0
HasMet times old new = (taken : List Taken) × (length taken ≡ times) × Appends old new (flat_map line_of taken)
