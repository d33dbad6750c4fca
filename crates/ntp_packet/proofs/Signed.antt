-- Numbers modulo 2^64, read as signed ones.
use Rattle.std.proofs.Common.{◌≡◌, ℕ, ◌+◌, ◌-◌, ◌%◌, ◌^◌, ◌<◌, ◌≤◌, ℤ, pos, negsuc, ◌+ℤ◌, ◌-ℤ◌, ◌*ℤ◌, inl, inr, suc, refl, ◌∙◌, rules, arith}
use Rattle.std.specs.Prelude.{FitsSigned}
use Rattle.std.proofs.{lemmas.Bool.cases_lt, Math.Facts.sfits_to_z, Math.Facts.to_z-neg, lemmas.Int.ints, lemmas.Int.to_z_pos}
use Rattle.std.specs.Int.{w64, cast_signed}
use Rattle.ntp_packet.specs.{declared.stamp.Stamp.Stamp, Difference.difference, Difference.IsDifference}

-- a number below 2^64 is one as a signed number
signed-fits : (n : ℕ) → n < 2 ^ 64 → FitsSigned w64 (cast_signed w64 n)
signed-fits n below = sfits_to_z {w = w64} {n = n} (search rules)

-- the lower half of the numbers below 2^64 are themselves, the upper half 2^64 less
lower : (n : ℕ) → n < 2 ^ 63 → cast_signed w64 n ≡ pos n
lower n below = to_z_pos w64 n below

upper : (n : ℕ) → 2 ^ 63 ≤ n → n < 2 ^ 64 → cast_signed w64 n ≡ negsuc (2 ^ 64 - suc n)
upper n above below = grind (arith, to_z-neg)

-- a difference modulo 2^64 is the one of the numbers, but for whole eras
whole-eras : (a b : ℕ) (d : ℤ) → a < 2 ^ 64 → b < 2 ^ 64 → d ≡ cast_signed w64 ((a + (2 ^ 64 - b)) % 2 ^ 64)
    → (eras : ℤ) × (d ≡ pos a -ℤ pos b +ℤ eras *ℤ pos (2 ^ 64))
whole-eras a b d fa fb is =
    let n : ℕ = (a + (2 ^ 64 - b)) % 2 ^ 64 in
    elim (cases_lt a b) [
      | inl below ↦ elim (cases_lt n (2 ^ 63)) [
        | inl small ↦ (pos 1, let e : d ≡ pos n = is ∙ lower n small in omega (arith, ints))
        | inr large ↦ (pos 0, let e : d ≡ negsuc (2 ^ 64 - suc n) = is ∙ upper n large (omega arith) in omega (arith, ints))
      ]
      | inr above ↦ elim (cases_lt n (2 ^ 63)) [
        | inl small ↦ (pos 0, let e : d ≡ pos n = is ∙ lower n small in omega (arith, ints))
        | inr large ↦ (negsuc 0, let e : d ≡ negsuc (2 ^ 64 - suc n) = is ∙ upper n large (omega arith) in omega (arith, ints))
      ]
    ]

-- the difference of stamps is one
pub IsDifference_difference : (a b : Stamp) → a.0 < 2 ^ 64 → b.0 < 2 ^ 64 → IsDifference a b (difference a b)
unfolding difference
IsDifference_difference a b fa fb =
    let apart = whole-eras a.0 b.0 (difference a b) fa fb refl in
    record { signed = signed-fits ((a.0 + (2 ^ 64 - b.0)) % 2 ^ 64) (omega arith); eras = apart.0; same = apart.1 }
