-- Cases in order: the first one that applies decides. A case is a step of a `do` block: it gives a value, with which the next one
-- goes on, or what is decided.
use Rattle.std.specs.Prelude.{Bool, true, false, Result, Ok, Err}

-- the second step, where the first gave a value; otherwise what the first decided
infixl 10 ◌>>=◌
abbrev pub ◌>>=◌ : {X Y D : Type 0} → Result X D → (X → Result Y D) → Result Y D
Ok x >>= f = f x
Err d >>= f = Err d

-- the same, where the first has no value to give
infixl 10 ◌>>◌
abbrev pub ◌>>◌ : {Y D : Type 0} → Result (Unit {0}) D → Result Y D → Result Y D
first >> second = first >>= (λ _. second)

-- goes on where this holds; otherwise that is decided
abbrev pub provided : {D : Type 0} → Bool → D → Result (Unit {0}) D
provided true otherwise = Ok tt
provided false otherwise = Err otherwise

-- goes on with the value; otherwise what is said of the error is decided
abbrev pub map_err : {X E D : Type 0} → Result X E → (E → D) → Result X D
map_err (Ok x) said = Ok x
map_err (Err e) said = Err (said e)

-- what the steps have decided: by one of them, or by the last
abbrev pub decided : {D : Type 0} → Result D D → D
decided (Ok d) = d
decided (Err d) = d
