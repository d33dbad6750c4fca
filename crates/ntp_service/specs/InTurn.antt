-- What leads from one state to another.
use Rattle.std.specs.Prelude.{◌≡◌, List, [], ◌∷◌}

-- each of these in turn led from one state to the next
abbrev pub InTurn : {S X : Type 0} → (S → S → X → Type 0) → S → S → List X → Type 0
InTurn Leads before after [] = after ≡ before
InTurn {S = S} Leads before after (x ∷ xs) = (between : S) × Leads before between x × InTurn Leads between after xs
