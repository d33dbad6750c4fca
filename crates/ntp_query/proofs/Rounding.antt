-- How large what is rounded may be.
use Rattle.std.proofs.Common.{ℕ, ◌+◌, ◌*◌, ◌^◌, ◌<◌, ◌≤◌, arith}
use Rattle.std.proofs.Math.Nat.{div-lt_iff_lt-mul}
use Rattle.ntp_query.specs.Answer.{nearest}

-- a quotient up to 2^62 is below 2^63 once it is rounded
pub nearest-small : (dividend divisor : ℕ) → 0 < divisor → dividend ≤ divisor * 2 ^ 62 → nearest dividend divisor < 2 ^ 63
nearest-small dividend divisor some few =
    (div-lt_iff_lt-mul {k = 2 * divisor} {x = 2 * dividend + divisor} {y = 2 ^ 63} (omega arith)).1 (omega arith)
