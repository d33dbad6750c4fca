-- The kiss codes that a server sends and a client knows.
use Rattle.std.specs.Prelude.{ℕ, List, [], ◌∷◌}

-- the code of a server that is asked too often: RATE (RFC 5905, 7.4)
abbrev pub rate_code : List ℕ
rate_code = 82 ∷ 65 ∷ 84 ∷ 69 ∷ []

-- the code of a server that refuses to serve: DENY (RFC 5905, 7.4)
abbrev pub deny_code : List ℕ
deny_code = 68 ∷ 69 ∷ 78 ∷ 89 ∷ []
