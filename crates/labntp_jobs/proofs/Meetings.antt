-- Meetings, and then one more.
use Rattle.std.proofs.Common.{ℕ, ◌+◌, List, [], ◌∷◌, ◌++◌, Option, None, Some, ap, ◌∙◌, append-nil, length-append, arith}
use Rattle.std.proofs.lemmas.List.{flat_map_more}
use Rattle.std.specs.Io.KnownBytes.{Appends}
use Rattle.ntp_client.specs.declared.taken.Taken.{Taken}
use Rattle.labntp_jobs.specs.Taken.{line_of, HasMet}

-- they met no time, and nothing was written
pub HasMet-none : (out : Option (List ℕ)) → HasMet 0 out out
HasMet-none out = grind (arith, append-nil)

-- they met once more, and a line was written
pub HasMet-more : (times : ℕ) (old mid new : Option (List ℕ)) (what : Taken) → HasMet times old mid → Appends mid new (line_of what)
    → HasMet (times + 1) old new
HasMet-more times None mid new what met line = (met.0 ++ what ∷ [], length-append met.0 (what ∷ []) ∙ ap (λ n. n + 1) met.1, tt)
HasMet-more times (Some xs) None new what met line = absurd met.2
HasMet-more times (Some xs) (Some ys) None what met line = absurd line
HasMet-more times (Some xs) (Some ys) (Some zs) what met line = (
  met.0 ++ what ∷ [],
  length-append met.0 (what ∷ []) ∙ ap (λ n. n + 1) met.1,
  line ∙ ap (λ l. l ++ line_of what) met.2 ∙ flat_map_more line_of xs met.0 what,
)
