-- What is kept of counts, after one event more.
use Rattle.std.proofs.Common.{◌≡◌, ℕ, List, [], ◌∷◌, ◌++◌, sym, subst}
use Rattle.ntp_customer.specs.Tally.{Tally, IsTally, tally}
use Rattle.ntp_customer.proofs.Tallies.{IsTally-tally}

-- the tally of one event more is a tally
pub IsTally-charged : (old new : Tally) (w : ℕ) → (windows : List ℕ) × (tally windows ≡ old)
    → ((windows : List ℕ) → tally windows ≡ old → new ≡ tally (windows ++ w ∷ [])) → IsTally new
IsTally-charged old new w stands after = subst IsTally (sym (after stands.0 stands.1)) (IsTally-tally (stands.0 ++ w ∷ []))
