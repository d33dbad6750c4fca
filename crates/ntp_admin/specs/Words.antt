-- The words of a line, and what each kind of word says.
use Rattle.std.specs.Prelude.{ℕ, zero, suc, ◌-◌, ◌^◌, ◌==◌, ◌&&◌, ◌||◌, Bool, not, nat_le, nat_lt, if◌then◌else◌, List, [], ◌∷◌, ◌++◌, length, map, slice_index, codes, Option, Some, None}
use Rattle.std.specs.List.{list_all, slice_split, slice_range, join_with_byte}
use Rattle.std.specs.Option.{option_map, option_map_or, option_and_then}
use Rattle.std.specs.{Result.result_ok, Char.is_ascii_digit, Str.bytes_eq, Str.Parse.digits_value, Int.NonZero.non_zero_u16_get}
use Rattle.std.specs.{Fmt.decimal, declared.num.NonZeroU16.NonZeroU16}
use Rattle.std.specs.Int.{w8, w32, w64, cast_signed, from_be_bytes}
use Rattle.std.proofs.Math.Nat.{zero-lt-suc}
use Rattle.hex.specs.Hex.{decode_of, decode_sized}
use Rattle.ntp_packet.specs.{declared.stamp.Stamp.Stamp, declared.stamp.Short.Short, declared.moment.Moment.Moment}
use Rattle.ntp_mac.specs.declared.key.Algorithm.{Algorithm}
use Rattle.ntp_mac.specs.declared.key.Algorithm.TheVariants.{Md5, Sha1}
use Rattle.ntp_service.specs.declared.address.Address.{Address}
use Rattle.ntp_reply.specs.Reference.{ReferenceState, is_reference}

-- the parts of a text that stand between separators; an empty text is one empty part
abbrev pub parts : ℕ → List ℕ → List (List ℕ)
parts separator text = slice_split (λ c. c == separator) text

-- the words of a line: what stands between its spaces
abbrev pub words : List ℕ → List (List ℕ)
words line = parts 32 line

-- digits and no sign, one digit at least, and no zero in front of others
abbrev pub is_decimal : List ℕ → Bool
is_decimal word = list_all is_ascii_digit word && nat_lt 0 (length word) && (not (slice_index word 0 == 48) || (length word == 1))

-- the number that a decimal word writes, where it is from `least` to `most`
abbrev pub decimal_in : ℕ → ℕ → List ℕ → Option ℕ
decimal_in least most word =
    let n = digits_value 10 word in if is_decimal word && nat_le least n && nat_le n most then Some n else None

-- an address of numbers, where there are four
abbrev pub address_from : List (Option ℕ) → Option Address
address_from (Some a ∷ Some b ∷ Some c ∷ Some d ∷ []) = Some (record { 0 = a ∷ b ∷ c ∷ d ∷ [] })
address_from other = None

-- an address: four numbers from 0 to 255, with dots between them
abbrev pub address_in : List ℕ → Option Address
address_in word = address_from (map (decimal_in 0 255) (parts 46 word))

-- an address as a word
unfoldable pub address_text : Address → List ℕ
address_text address = join_with_byte 46 (map decimal address.0)

-- a number that is not 0
abbrev pub non_zero : ℕ → Option NonZeroU16
non_zero zero = None
non_zero (suc n) = Some (record { value = suc n; ok = zero-lt-suc n })

-- a key number or a budget: from 1 to 65,535
abbrev pub number_in : List ℕ → Option NonZeroU16
number_in word = option_and_then non_zero (decimal_in 1 65535 word)

-- a number with a space before it, where there is one
abbrev pub number_behind : Option NonZeroU16 → List ℕ
number_behind number = option_map_or (λ n. codes " " ++ decimal (non_zero_u16_get n)) number []

-- a digest algorithm
abbrev pub algorithm_in : List ℕ → Option Algorithm
algorithm_in word = if bytes_eq word (codes "md5") then Some Md5 else if bytes_eq word (codes "sha1") then Some Sha1 else None

-- the octets of a key: 1 to 32, as hexadecimal digits of either case, two for each octet
abbrev pub key_in : List ℕ → Option (List ℕ)
key_in word = if nat_le 2 (length word) && nat_le (length word) 64 then result_ok (decode_of word) else None

-- the octets of a datagram: one at least, or `-` for none
abbrev pub octets_in : List ℕ → Option (List ℕ)
octets_in word = if bytes_eq word (codes "-") then Some [] else if nat_lt 0 (length word) then result_ok (decode_of word) else None

-- the numbers of octets, the most significant first (RFC 5905, 7.3)
abbrev pub short_of : List ℕ → Short
short_of octets = record { 0 = from_be_bytes w32 octets }

abbrev pub stamp_of : List ℕ → Stamp
stamp_of octets = record { 0 = from_be_bytes w64 octets }

-- a stamp: 16 digits
abbrev pub stamp_in : List ℕ → Option Stamp
stamp_in word = option_map stamp_of (result_ok (decode_sized word 8))

-- the second step, where the first gave a value
infixl 10 ◌>>=◌
abbrev pub ◌>>=◌ : {X Y : Type 0} → Option X → (X → Option Y) → Option Y
Some x >>= f = f x
None >>= f = None

-- an era and a stamp
abbrev pub moment_from : List (List ℕ) → Option Moment
moment_from (era ∷ stamp ∷ []) = do
  e ← decimal_in 0 (2 ^ 32 - 1) era
  s ← stamp_in stamp
  Some (record { era = e; stamp = s })
moment_from other = None

-- a moment: its era and its stamp, with a colon between them
abbrev pub moment_in : List ℕ → Option Moment
moment_in word = moment_from (parts 58 word)

-- a reference state as 23 octets, the precision in two's complement
abbrev pub state_of : List ℕ → ReferenceState
state_of octets = record {
  leap = slice_index octets 0;
  stratum = slice_index octets 1;
  precision = cast_signed w8 (slice_index octets 2);
  root_delay = short_of (slice_range octets 3 7);
  root_dispersion = short_of (slice_range octets 7 11);
  reference_id = slice_range octets 11 15;
  reference = stamp_of (slice_range octets 15 23);
}

-- a reference state: 46 digits
abbrev pub reference_in : List ℕ → Option ReferenceState
reference_in word = do
  octets ← result_ok (decode_sized word 23)
  if is_reference (state_of octets) then Some (state_of octets) else None
