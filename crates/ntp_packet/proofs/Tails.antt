-- A tail that is read is spelled so, and what is spelled is read again.
use Rattle.std.proofs.Common.{◌≡◌, ℕ, ◌^◌, ◌<◌, ◌≤◌, List, ◌++◌, length, take, drop, sym, ap, ◌∙◌, arith}
use Rattle.std.specs.Int.{w32, to_be_bytes, from_be_bytes}
use Rattle.std.proofs.lemmas.List.{take_all, take-append-drop, take_rest, nil_from_length}
use Rattle.std.proofs.lemmas.Nat.{from_be_bytes-to_be_bytes_4}
use Rattle.ntp_packet.specs.Tail.{TailValue, tail_octets, IsTail}

-- the key number alone
pub number-alone : (octets number : List ℕ) → length octets ≡ 4 → number ≡ take 4 octets → number ≡ octets
number-alone octets number four e = e ∙ take_all 4 octets (omega arith)

-- the key number and the digest
pub number-and-digest : (octets number digest : List ℕ) → number ≡ take 4 octets → digest ≡ drop 4 octets → number ++ digest ≡ octets
number-and-digest octets number digest e d = rw (e, d) (take-append-drop 4 octets)

-- a tail as it is read
pub ruleset tails = (nil_from_length, take_rest, number-alone, number-and-digest)

-- how many octets a tail has
pub length-tail : (t : TailValue) → IsTail t → length (tail_octets t) ≤ 24
unfolding tail_octets
length-tail t e = grind arith

same-number : (m n : ℕ) → m < 2 ^ 32 → n < 2 ^ 32 → to_be_bytes w32 m ≡ to_be_bytes w32 n → m ≡ n
same-number m n p q e = sym (from_be_bytes-to_be_bytes_4 m p) ∙ ap (from_be_bytes w32) e ∙ from_be_bytes-to_be_bytes_4 n q

-- no two tails are spelled alike
pub same-tail : (s t : TailValue) → IsTail s → IsTail t → tail_octets s ≡ tail_octets t → s ≡ t
unfolding tail_octets
same-tail s t e f g = grind (arith, same-number)
