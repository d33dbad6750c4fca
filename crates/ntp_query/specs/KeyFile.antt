-- A key file in the form of chrony.
use Rattle.std.specs.Prelude.{ℕ, Bool, false, ◌==◌, ◌||◌, ◌&&◌, nat_eq, nat_le, nat_lt, if◌then◌else◌, List, [], ◌∷◌, length, drop, filter, codes, Option, Some, None, Result, Ok, Err}
use Rattle.std.specs.{Option.option_map_or, Option.ok_or, Str.bytes_eq, Int.NonZero.non_zero_u16_get}
use Rattle.std.specs.List.{find, enumerate_from, starts_with}
use Rattle.ntp_packet.specs.FirstCase.{◌>>=◌, map_err}
use Rattle.ntp_mac.specs.{Key.most_key_octets, Key.SymmetricKey, declared.key.Algorithm.Algorithm}
use Rattle.ntp_mac.specs.declared.key.Algorithm.TheVariants.{Md5, Sha1}
use Rattle.ntp_admin.specs.Words.{parts, number_in, key_in}
use Rattle.ntp_query.specs.{declared.key_file.KeyLineFault.KeyLineFault, declared.key_file.KeyFileFault.KeyFileFault}
use Rattle.ntp_query.specs.declared.key_file.KeyFileFault.TheVariants.{Missing, Line}
use Rattle.ntp_query.specs.declared.key_file.KeyLineFault.TheVariants as line_fault

-- an octet, with a space in the place of a tabulator or a carriage return
abbrev pub space_for : ℕ → ℕ
space_for octet = if (octet == 9) || (octet == 13) then 32 else octet

-- the words of a line: what stands between its spaces, and is not empty
abbrev pub words : List ℕ → List (List ℕ)
words line = filter (λ word. nat_lt 0 (length word)) (parts 32 line)

-- whether the first of some words is a number
abbrev pub begins_with : ℕ → List (List ℕ) → Bool
begins_with number [] = false
begins_with number (first ∷ others) = option_map_or (λ found. non_zero_u16_get found == number) (number_in first) false

-- whether a line has the key with a number
abbrev pub is_key_line : ℕ → List ℕ → Bool
is_key_line number line = begins_with number (words line)

-- a digest algorithm, as chrony names it (chrony.conf(5))
abbrev pub algorithm_of : List ℕ → Option Algorithm
algorithm_of word = if bytes_eq word (codes "MD5") then Some Md5 else (if bytes_eq word (codes "SHA1") then Some Sha1 else None)

-- the octets of a key as they stand: 1 to 32
abbrev pub plain_octets : List ℕ → Option (List ℕ)
plain_octets word = if nat_le 1 (length word) && nat_le (length word) most_key_octets then Some word else None

-- the octets of a key: in hexadecimal digits behind `HEX:`, else as they stand, also behind `ASCII:` (chrony.conf(5))
abbrev pub key_octets : List ℕ → Option (List ℕ)
key_octets word =
    if starts_with nat_eq word (codes "HEX:") then key_in (drop 4 word)
    else (if starts_with nat_eq word (codes "ASCII:") then plain_octets (drop 6 word) else plain_octets word)

-- a key for an algorithm
abbrev pub key_of : Algorithm → List ℕ → Result SymmetricKey KeyLineFault
key_of algorithm word = do
  octets ← ok_or (key_octets word) line_fault.Key
  Ok (record { algorithm = algorithm; octets = octets })

-- the key of the words of a line: behind its number an algorithm, MD5 where there is none, and the key (chrony.conf(5))
abbrev pub key_of_words : List (List ℕ) → Result SymmetricKey KeyLineFault
key_of_words (number ∷ key ∷ []) = key_of Md5 key
key_of_words (number ∷ algorithm ∷ key ∷ []) = do
  a ← ok_or (algorithm_of algorithm) line_fault.Algorithm
  key_of a key
key_of_words other = Err line_fault.Words

abbrev pub key_in_words : List ℕ → Result SymmetricKey KeyLineFault
key_in_words line = key_of_words (words line)

-- the key of a line with its place
abbrev pub key_in_line : ℕ → List ℕ → Result SymmetricKey KeyFileFault
key_in_line place line = map_err (key_in_words line) (λ fault. Line place fault)

-- the key of the first line that has the number, of lines that are counted from a place
abbrev pub key_in_lines : ℕ → ℕ → List (List ℕ) → Result SymmetricKey KeyFileFault
key_in_lines number place lines = do
  it ← ok_or (find (λ it. is_key_line number it.1) (enumerate_from place lines)) Missing
  key_in_line it.0 it.1

-- the key with a number in a text: that of its first line that has the number, counted from 1
abbrev pub key_in_text : ℕ → List ℕ → Result SymmetricKey KeyFileFault
key_in_text number text = key_in_lines number 1 (parts 10 text)
