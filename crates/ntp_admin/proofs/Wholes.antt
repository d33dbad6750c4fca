-- Whole numbers of a file, as `try_from` and `NonZero::new` take them.
use Rattle.std.proofs.Common.{◌≡◌, ℕ, ℤ, pos, ◌<◌, ◌^◌, Option, Some, Result, arith}
use Rattle.std.specs.Prelude.{MatchOption}
use Rattle.std.specs.{Int.FitsUnsignedBits, Result.OkIff, Result.result_ok, declared.num.NonZeroU16.NonZeroU16}
use Rattle.std.proofs.{Math.IntN.nat_abs, lemmas.Bool.Decides.nat_tests}
use Rattle.ntp_admin.specs.{Words.non_zero, RegisterFile.non_zero_whole}
use Rattle.ntp_admin.proofs.Numbers.{new-non_zero}

-- a number that fits is looked at by itself alone
within : (n : ℕ) (o : Option NonZeroU16) → n < 2 ^ 16 → o ≡ non_zero n → o ≡ non_zero_whole (pos n)
within n o fits e = grind (arith, nat_tests)

-- what both give
pub non_zero_whole-read : {E : Type 0} (z : ℤ) (n : ℕ) (r : Result ℕ E) (o : Option NonZeroU16) → OkIff r (FitsUnsignedBits 16 z) (nat_abs z)
    → Some n ≡ result_ok r → MatchOption o (n ≡ 0) (λ x. x.value ≡ n) → o ≡ non_zero_whole z
non_zero_whole-read z n r o e f g = grind (arith, within, new-non_zero)
