-- What is written of a number, an address and a key is read as it.
use Rattle.std.proofs.Common.{◌≡◌, ℕ, suc, ◌^◌, ◌<◌, ◌≤◌, ◌==◌, ◌||◌, true, false, List, [], ◌∷◌, length, Some, refl, ap, sym, ◌∙◌, arith, rules}
use Rattle.std.specs.{Prelude.map, Prelude.not, Prelude.slice_index, Option.option_and_then, List.list_all, Char.is_ascii_digit}
use Rattle.std.specs.{Fmt.decimal, Str.Parse.digits_value, declared.num.NonZeroU16.NonZeroU16}
use Rattle.std.proofs.{lemmas.Bool.Decides.nat_tests, lemmas.List.length-map}
use Rattle.std.proofs.lemmas.Str.Parse.{IsNumeralModel, numerals_by_value}
use Rattle.std.proofs.lemmas.List.Sums.{list_all-from_AllPass}
use Rattle.std.proofs.lemmas.Fmt.{digits_decimal, digits_value-decimal, decimal_nonempty, first_decimal, decimal_digit}
use Rattle.hex.specs.Hex.{encode_lower, IsBytes, is_hex_digit}
use Rattle.hex.proofs.HexLemmas.{decode_of-encode_lower, decode_of-ok, length-encode_with}
use Rattle.ntp_service.specs.declared.address.Address.{Address}
use Rattle.ntp_admin.specs.Words.{is_decimal, decimal_in, number_in, key_in, address_in, address_from, address_text, non_zero}
use Rattle.ntp_admin.proofs.PublicLaws.{new-non_zero}
use Rattle.ntp_clerk.specs.{CommandText.AreKeyOctets, CommandText.IsAddress, CommandText.IsNumber, Grants.number_text}
use Rattle.ntp_clerk.proofs.Joined.{lacks, lacks-all, lacks-by, parts-all, AllLack}

own : IsNumeralModel (λ ds. list_all is_ascii_digit ds ≡ true) (digits_value 10)
own = numerals_by_value _ (search rules)

-- digits alone
pub lacks-decimal : (c n : ℕ) → is_ascii_digit c ≡ false → n < 2 ^ 64 → lacks c (decimal n) ≡ true
lacks-decimal c n other fits = lacks-by is_ascii_digit c other (decimal n) (digits_decimal own n fits)

-- no zero in front of others
leading : (n : ℕ) → n < 2 ^ 64 → (not (slice_index (decimal n) 0 == 48) || (length (decimal n) == 1)) ≡ true
leading n e = grind (arith, decimal_digit, first_decimal, nat_tests)

decimal-is : (n : ℕ) → n < 2 ^ 64 → is_decimal (decimal n) ≡ true
decimal-is n fits = grind (arith, digits_decimal, own, decimal_nonempty, leading, nat_tests)

-- a number
pub reads-decimal : (least most n : ℕ) → least ≤ n → n ≤ most → n < 2 ^ 64 → decimal_in least most (decimal n) ≡ Some n
reads-decimal least most n low high fits = grind (arith, decimal-is, digits_value-decimal, own, nat_tests)

pub reads-number : (number : NonZeroU16) → IsNumber number → number_in (number_text number) ≡ Some number
reads-number number fits =
    ap (option_and_then non_zero) (reads-decimal 1 65535 number.value (number.ok) (omega arith) (omega arith))
    ∙ sym (new-non_zero number.value (Some number) refl)

-- an address
octets-lack : (c : ℕ) → is_ascii_digit c ≡ false → (octets : List ℕ) → IsBytes octets → AllLack c (map decimal octets)
octets-lack c other [] bytes = tt
octets-lack c other (a ∷ octets) bytes = (lacks-decimal c a other (omega (arith, bytes 0)), octets-lack c other octets (λ i. bytes (suc i)))

reads-octets : (octets : List ℕ) → length octets ≡ 4 → IsBytes octets → address_from (map (decimal_in 0 255) (map decimal octets)) ≡ Some (record { 0 = octets })
reads-octets (a ∷ b ∷ c ∷ d ∷ []) four bytes =
    let ra = reads-decimal 0 255 a (omega arith) (omega (arith, bytes 0)) (omega (arith, bytes 0)) in
    let rb = reads-decimal 0 255 b (omega arith) (omega (arith, bytes 1)) (omega (arith, bytes 1)) in
    let rc = reads-decimal 0 255 c (omega arith) (omega (arith, bytes 2)) (omega (arith, bytes 2)) in
    let rd = reads-decimal 0 255 d (omega arith) (omega (arith, bytes 3)) (omega (arith, bytes 3)) in
    rw (ra, rb, rc, rd) refl
reads-octets others four bytes = absurd (omega arith)

pub reads-address : (address : Address) → IsAddress address → address_in (address_text address) ≡ Some address
unfolding address_text
reads-address address is =
    ap (λ words. address_from (map (decimal_in 0 255) words))
    (parts-all 46 (map decimal address.0) (omega (arith, is.0, length-map address.0 decimal)) (octets-lack 46 refl address.0 is.1))
    ∙ reads-octets address.0 is.0 is.1

pub lacks-address : (x : ℕ) → is_ascii_digit x ≡ false → not (46 == x) ≡ true → (address : Address) → IsAddress address
    → lacks x (address_text address) ≡ true
unfolding address_text
lacks-address x other dot address is = grind (arith, lacks-all, length-map, octets-lack)

-- a key
pub lacks-digits : (c : ℕ) (octets : List ℕ) → is_hex_digit c ≡ false → IsBytes octets → lacks c (encode_lower octets) ≡ true
lacks-digits c octets other bytes =
    let read = decode_of-ok (encode_lower octets) octets (decode_of-encode_lower octets bytes) in
    lacks-by is_hex_digit c other (encode_lower octets) (list_all-from_AllPass is_hex_digit (encode_lower octets) read.1)

pub reads-key : (octets : List ℕ) → AreKeyOctets octets → key_in (encode_lower octets) ≡ Some octets
reads-key octets is = grind (arith, decode_of-encode_lower, length-encode_with, nat_tests)
