-- Decimal words, as `parse` reads them.
use Rattle.std.proofs.Common.{◌≡◌, ℕ, zero, suc, ◌^◌, ◌<◌, true, List, length, Option, Some, None, Result, refl, ap, subst, arith, rules}
use Rattle.std.specs.{Prelude.MatchOption, Char.is_ascii_digit, List.list_all, Str.Parse.ParsesUnsigned, Str.Parse.digits_value}
use Rattle.std.specs.{Result.result_ok, declared.num.NonZeroU16.NonZeroU16}
use Rattle.std.proofs.{lemmas.Bool.and_parts, lemmas.Bool.cases_lt, Math.Bridge.le_prop, lemmas.Bool.Decides.nat_tests}
use Rattle.std.proofs.lemmas.Str.Parse.{IsNumeralModel, numerals_by_value, parse_digits}
use Rattle.ntp_admin.specs.Words.{is_decimal, decimal_in, non_zero}

-- the test of digits
own : IsNumeralModel (λ ds. list_all is_ascii_digit ds ≡ true) (digits_value 10)
own = numerals_by_value _ (search rules)

-- a decimal word is digits
digits : (word : List ℕ) → is_decimal word ≡ true → (list_all is_ascii_digit word ≡ true) × (0 < length word)
digits word d = grind (arith, nat_tests, and_parts)

-- what `parse` refuses, though it is decimal, is too large
pub decimal_in-refused : {E : Type 0} (least most : ℕ) (word : List ℕ) (r : Result ℕ E) → most < 2 ^ 32 → is_decimal word ≡ true
    → ParsesUnsigned 32 10 word r → None ≡ result_ok r → decimal_in least most word ≡ None
decimal_in-refused least most word r e f g h = grind (arith, digits, parse_digits, own, cases_lt, nat_tests)

-- two such numbers are equal where their values are
same-value : (x y : NonZeroU16) → x.value ≡ y.value → x ≡ y
same-value x y e = subst P e (λ p. ap (λ (q : 0 < x.value). record { value = x.value; ok = q }) (one_proof x.value x.ok p)) y.ok
  where
    P : ℕ → Type 0
    P v = (p : 0 < v) → ◌≡◌ {A = NonZeroU16} x (record { value = v; ok = p })

    one_proof : (v : ℕ) → IsProp (0 < v)
    one_proof v = le_prop

-- what `NonZero::new` gives
pub new-non_zero : (n : ℕ) (r : Option NonZeroU16) → MatchOption r (n ≡ 0) (λ x. x.value ≡ n) → r ≡ non_zero n
new-non_zero zero None h = refl
new-non_zero (suc n) None h = cc
new-non_zero zero (Some x) h = absurd (omega arith)
new-non_zero (suc n) (Some x) h = ap Some (same-value x _ h)
