-- What leads from one state to another, and then on.
use Rattle.std.proofs.Common.{List, [], ◌∷◌, ◌++◌, subst}
use Rattle.ntp_service.specs.InTurn.{InTurn}

-- some led there, and then others
pub InTurn-append : {S X : Type 0} (Leads : S → S → X → Type 0) (xs ys : List X) (a b c : S) → InTurn Leads a b xs → InTurn Leads b c ys
    → InTurn Leads a c (xs ++ ys)
InTurn-append Leads [] ys a b c p q = subst (λ s. InTurn Leads s c ys) p q
InTurn-append Leads (x ∷ xs) ys a b c p q = (p.0, p.1, InTurn-append Leads xs ys p.0 b c p.2 q)
