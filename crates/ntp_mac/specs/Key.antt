-- A symmetric key.
use Rattle.std.specs.Prelude.{ℕ, List}
use Rattle.ntp_mac.specs.declared.key.Algorithm.{Algorithm}

-- how many octets a key has at most (profile)
abbrev pub most_key_octets : ℕ
most_key_octets = 32

-- a key that is shared with one peer: the digest algorithm that it is for, and its octets, which the code's `Key` hides (RFC 5905, 7.3)
pub record SymmetricKey : Type 0 where
  pub algorithm : Algorithm
  pub octets : List ℕ
