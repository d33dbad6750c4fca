-- The digits of a key, and what is wrong with them.
use Rattle.std.specs.Prelude.{ℕ, suc, ◌==◌, ◌||◌, ◌%◌, not, nat_lt, if◌then◌else◌, List, [], ◌∷◌, length, Option, None, Some}
use Rattle.std.specs.{Char.is_ascii_hexdigit, List.position_from, Option.option_map}
use Rattle.ntp_admin.specs.Words.{key_in}
use Rattle.ntp_mac.specs.{Key.SymmetricKey, declared.key.Algorithm.Algorithm}
use Rattle.labntpd_files.specs.declared.key_text.KeyWrong.{KeyWrong}
use Rattle.labntpd_files.specs.declared.key_text.KeyWrong.TheVariants as wrong

-- the text without the line feed at its end, where it has one there
abbrev pub first_line : List ℕ → List ℕ
first_line [] = []
first_line (octet ∷ []) = if octet == 10 then [] else octet ∷ []
first_line (octet ∷ next ∷ others) = octet ∷ first_line (next ∷ others)

-- a key for an algorithm: one line with its octets in hexadecimal digits
abbrev pub key_in_file : List ℕ → Algorithm → Option SymmetricKey
key_in_file text algorithm = option_map (λ octets. record { algorithm = algorithm; octets = octets }) (key_in (first_line text))

-- what is wrong where the first octet that is no digit stands at a place, else with the count of digits: even, from 2 to 64
abbrev pub wrong_behind : Option ℕ → ℕ → Option KeyWrong
wrong_behind (Some place) count = Some (wrong.NoDigit (suc place))
wrong_behind None count = if count == 0 || nat_lt 64 count || count % 2 == 1 then Some (wrong.Digits count) else None

-- what is wrong with the word of a key: its first octet that is no digit, else how many there are
abbrev pub key_wrong : List ℕ → Option KeyWrong
key_wrong word = wrong_behind (position_from (λ octet. not (is_ascii_hexdigit octet)) 0 word) (length word)
