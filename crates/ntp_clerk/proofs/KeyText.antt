-- What a customer gets is a key file, from which its key is read.
use Rattle.std.proofs.Common.{◌≡◌, ℕ, ◌==◌, Bool, true, false, List, [], ◌∷◌, ◌++◌, ◌<◌, get_or, length, Some, Ok, refl, ap, ◌∙◌, arith, lit<}
use Rattle.std.specs.Prelude.{codes, filter, nat_le, nat_lt, Result, if◌then◌else◌}
use Rattle.std.specs.{List.find, List.enumerate_from, List.list_all, Option.option_map_or, Option.ok_or, Char.is_ascii_digit}
use Rattle.std.specs.{Int.NonZero.non_zero_u16_get, declared.num.NonZeroU16.NonZeroU16, Str.IsUtf8}
use Rattle.std.proofs.{lemmas.Bool.and_parts, lemmas.List.Sums.AllPass-from_list_all, lemmas.Str.IsUtf8-from_ascii}
use Rattle.std.proofs.{lemmas.Str.Ascii.IsAscii-from_all, lemmas.Bool.Decides.nat_tests, lemmas.Fmt.decimal_nonempty}
use Rattle.hex.specs.Hex.{encode_lower, is_hex_digit}
use Rattle.ntp_packet.specs.FirstCase.{◌>>=◌, map_err}
use Rattle.ntp_mac.specs.{Key.SymmetricKey, declared.key.Algorithm.Algorithm}
use Rattle.ntp_admin.specs.Words.{parts}
use Rattle.ntp_query.specs.KeyFile.{words, begins_with, is_key_line, key_octets, key_of_words, key_in_words, key_in_line, key_in_lines, key_in_text}
use Rattle.ntp_query.specs.declared.key_file.KeyFileFault.{KeyFileFault}
use Rattle.ntp_query.specs.declared.key_file.KeyFileFault.TheVariants.{Missing, Line}
use Rattle.ntp_clerk.specs.CommandText.{AreKeyOctets, IsNumber}
use Rattle.ntp_clerk.specs.Grants.{number_text, chrony_algorithm, chrony_key, is_text, is_text_octet, key_word}
use Rattle.ntp_clerk.proofs.Joined.{lacks, AllLack, lacks-both, lacks-by, parts-all, lacks-all, parts-first-line}
use Rattle.ntp_clerk.proofs.Spelled.{reads-number, reads-key, lacks-decimal, lacks-digits}

-- a text is one in UTF-8
text-is-utf8 : (octets : List ℕ) → is_text octets ≡ true → IsUtf8 octets
text-is-utf8 octets is =
    let all = (and_parts (nat_le (length octets) 20) (list_all is_text_octet octets) is).1 in
    IsUtf8-from_ascii octets (IsAscii-from_all octets (λ k d inside. below (get_or octets k d) (AllPass-from_list_all is_text_octet octets all k d inside)))
  where
    below : (c : ℕ) → is_text_octet c ≡ true → c < 128
    below c is = grind (arith, nat_tests)

pub no-text : (octets : List ℕ) → (IsUtf8 octets → ⊥) → is_text octets ≡ false
no-text octets bad = by-form (is_text octets) refl
  where
    by-form : (b : Bool) → is_text octets ≡ b → is_text octets ≡ false
    by-form true is = absurd (bad (text-is-utf8 octets is))
    by-form false is = is

-- the word of the octets of a key
abbrev octets_word : List ℕ → List ℕ
octets_word octets = key_word (codes "ASCII:") (codes "HEX:") octets

-- it has no octet that neither digits, nor a text, nor the marks have
word-lacks : (c : ℕ) → is_hex_digit c ≡ false → is_text_octet c ≡ false → lacks c (codes "HEX:") ≡ true → lacks c (codes "ASCII:") ≡ true
    → (octets : List ℕ) → AreKeyOctets octets → lacks c (octets_word octets) ≡ true
word-lacks c hex other digits text octets is = by-form (is_text octets) refl
  where
    by-form : (b : Bool) → is_text octets ≡ b → lacks c (if b then codes "ASCII:" ++ octets else codes "HEX:" ++ encode_lower octets) ≡ true
    by-form true form =
        lacks-both c (codes "ASCII:") octets text (lacks-by is_text_octet c other octets (and_parts (nat_le (length octets) 20) (list_all is_text_octet octets) form).1)
    by-form false form = lacks-both c (codes "HEX:") (encode_lower octets) digits (lacks-digits c octets hex is.2)

-- the octets are read from it
reads-word : (octets : List ℕ) → AreKeyOctets octets → key_octets (octets_word octets) ≡ Some octets
reads-word octets is = by-form (is_text octets)
  where
    by-form : (b : Bool) → key_octets (if b then codes "ASCII:" ++ octets else codes "HEX:" ++ encode_lower octets) ≡ Some octets
    by-form true = grind (arith, nat_tests)
    by-form false = reads-key octets is

-- the words of the line of a key
abbrev three : NonZeroU16 → SymmetricKey → List (List ℕ)
three number key = number_text number ∷ chrony_algorithm key.algorithm ∷ octets_word key.octets ∷ []

-- no word of it has an octet that neither digits nor the words of a key file have
three-lack : (c : ℕ) → is_ascii_digit c ≡ false → is_hex_digit c ≡ false → is_text_octet c ≡ false → lacks c (codes "HEX:") ≡ true
    → lacks c (codes "ASCII:") ≡ true → lacks c (codes "MD5") ≡ true → lacks c (codes "SHA1") ≡ true
    → (number : NonZeroU16) (key : SymmetricKey) → IsNumber number → AreKeyOctets key.octets → AllLack c (three number key)
three-lack c digit hex other digits text md5 sha1 number key fits is = (
  lacks-decimal c number.value digit (omega (arith, fits)),
  (algorithm key.algorithm, (word-lacks c hex other digits text key.octets is, tt)),
)
  where
    algorithm : (a : Algorithm) → lacks c (chrony_algorithm a) ≡ true
    algorithm a = grind arith

-- none of them is empty
abbrev is_word : List ℕ → Bool
is_word word = nat_lt 0 (length word)

some-octet : (first : ℕ) (others : List ℕ) → is_word (first ∷ others) ≡ true
some-octet first others = grind (arith, nat_tests)

kept : (word : List ℕ) (others : List (List ℕ)) → is_word word ≡ true → filter is_word others ≡ others → filter is_word (word ∷ others) ≡ word ∷ others
kept word others some rest = grind arith

three-words : (number : NonZeroU16) (key : SymmetricKey) → IsNumber number → filter is_word (three number key) ≡ three number key
three-words number key fits =
    let some = decimal_nonempty number.value (omega (arith, fits)) in
    let first : is_word (number_text number) ≡ true = grind (arith, nat_tests) in
    kept (number_text number) _ first (kept (chrony_algorithm key.algorithm) _ (algorithm key.algorithm) (kept (octets_word key.octets) [] (by-form (is_text key.octets)) refl))
  where
    by-form : (b : Bool) → is_word (if b then codes "ASCII:" ++ key.octets else codes "HEX:" ++ encode_lower key.octets) ≡ true
    by-form b = grind (arith, some-octet)

    algorithm : (a : Algorithm) → is_word (chrony_algorithm a) ≡ true
    algorithm a = grind (arith, some-octet)

line-words : (number : NonZeroU16) (key : SymmetricKey) → IsNumber number → AreKeyOctets key.octets → words (chrony_key number key) ≡ three number key
unfolding chrony_key
line-words number key fits is =
    ap (filter is_word) (parts-all 32 (three number key) (lit< tt) (three-lack 32 refl refl refl refl refl refl refl number key fits is))
    ∙ three-words number key fits

-- it is the line of the number
is-line : (number : NonZeroU16) (key : SymmetricKey) → IsNumber number → AreKeyOctets key.octets → is_key_line number.value (chrony_key number key) ≡ true
is-line number key fits is =
    ap (begins_with number.value) (line-words number key fits is)
    ∙ ap (λ found. option_map_or (λ n. non_zero_u16_get n == number.value) found false) (reads-number number fits)
    ∙ grind (arith, nat_tests)

-- it has the key
has-key : (number : NonZeroU16) (key : SymmetricKey) → IsNumber number → AreKeyOctets key.octets → key_in_words (chrony_key number key) ≡ Ok key
has-key number key fits is = ap key_of_words (line-words number key fits is) ∙ by-algorithm key.algorithm
  where
    by-algorithm : (a : Algorithm) → key_of_words (number_text number ∷ chrony_algorithm a ∷ octets_word key.octets ∷ [])
        ≡ Ok (record { algorithm = a; octets = key.octets })
    by-algorithm a = grind (arith, reads-word)

-- the key of the first line, or of the others
picked : ℕ → List ℕ → List (List ℕ) → Bool → Result SymmetricKey KeyFileFault
picked number line others b =
    ok_or (if b then Some (1, line) else find (λ it. is_key_line number it.1) (enumerate_from 2 others)) Missing >>= (λ it. key_in_line it.0 it.1)

pub text-has-key : (number : NonZeroU16) (key : SymmetricKey) (notes text : List ℕ) → IsNumber number → AreKeyOctets key.octets
    → text ≡ chrony_key number key ++ (10 ∷ notes) → key_in_text number.value text ≡ Ok key
unfolding chrony_key picked
text-has-key number key notes text fits is whole =
    let line = chrony_key number key in
    ap (key_in_text number.value) whole
    ∙ ap (key_in_lines number.value 1) (parts-first-line line notes (lacks-all 10 32 refl (three number key) (lit< tt) (three-lack 10 refl refl refl refl refl refl refl number key fits is)))
    ∙ ap (picked number.value line (parts 10 notes)) (is-line number key fits is)
    ∙ ap (λ found. map_err found (λ fault. Line 1 fault)) (has-key number key fits is)
