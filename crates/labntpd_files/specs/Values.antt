-- What the values of a configuration file and of a wanted customer say.
use Rattle.std.specs.Prelude.{ℕ, Bool, pos, ◌≤◌, ◌*◌, ◌==◌, ◌&&◌, not, nat_le, nat_lt, if◌then◌else◌, List, length, codes, Option, Some, None}
use Rattle.std.specs.List.{before_first, after_first, list_any}
use Rattle.std.specs.{Char.is_control, Option.option_map, Int.w64, Str.bytes_eq, Str.chars}
use Rattle.std.specs.declared.num.NonZeroU16.{NonZeroU16}
use Rattle.std.specs.Float.Ieee as Ieee
use Rattle.std.specs.Float.{binary64, float_round, float_to_unsigned}
use Rattle.toml.specs.Data.{Data, integer, float, as_str}
use Rattle.ntp_admin.specs.Words.{◌>>=◌, address_in, number_in, key_in, non_zero}
use Rattle.ntp_mac.specs.{Key.SymmetricKey, declared.key.Algorithm.Algorithm}
use Rattle.labntpd_files.specs.declared.{setting.Kind.Kind, configuration.Endpoint.Endpoint, configuration.Listen.Listen}
use Rattle.labntpd_files.specs.declared.setting.Kind.TheVariants as k
use Rattle.labntpd_files.specs.declared.configuration.Listen.TheVariants.{Bound, Inherited}

-- an address and a UDP port from 1 to 65,535, with a colon between them
abbrev pub endpoint_in : List ℕ → Option Endpoint
endpoint_in text = do
  address ← address_in (before_first (λ octet. octet == 58) text)
  port ← number_in (after_first (λ octet. octet == 58) text)
  Some (record { address = address; port = port })

-- where datagrams are received: an endpoint, or `inherited`
abbrev pub listen_in : List ℕ → Option Listen
listen_in text = if bytes_eq text (codes "inherited") then Some Inherited else option_map Bound (endpoint_in text)

-- a path: a text that is not empty
abbrev pub path_in : List ℕ → Option (List ℕ)
path_in text = if nat_lt 0 (length text) then Some text else None

-- what the text of a value says, if it is a text
abbrev pub text_as : {X : Type 0} → (List ℕ → Option X) → Data → Option X
text_as read value = as_str value >>= read

-- a number that is in a range
abbrev pub in_range : ℕ → ℕ → ℕ → Option ℕ
in_range least most n = if nat_le least n && nat_le n most then Some n else None

-- a whole number
abbrev pub whole_of : Data → Option ℕ
whole_of (integer (pos n)) = Some n
whole_of other = None

-- how many units a number of seconds has, where a second has `units` units: the product, as IEEE 754 has it, rounded; no number
-- gives 0, and the ends of 64 bits stand for what lies behind them
abbrev pub units_of : ℕ → Data → Option ℕ
units_of units (float seconds) =
    Some (float_to_unsigned w64 (float_round binary64 (Ieee.mul binary64 seconds (Ieee.of_int binary64 (pos units)))))
units_of units other = option_map (λ seconds. seconds * units) (whole_of other)

-- the number at a key of a kind, in its range: a key number, which is not 0 (RFC 5905, 7.3), or a budget; octets; units of time
abbrev pub count_of : Kind → Data → Option ℕ
count_of k.Number value = whole_of value >>= in_range 1 65535
count_of k.Octets value = whole_of value >>= in_range 65536 1073741823
count_of (k.Seconds units least most) value = units_of units value >>= in_range least most
count_of other value = None

abbrev pub IsWithin : Kind → ℕ → Type 0
IsWithin k.Number count = (1 ≤ count) × (count ≤ 65535)
IsWithin k.Octets count = (65536 ≤ count) × (count ≤ 1073741823)
IsWithin (k.Seconds units least most) count = (least ≤ count) × (count ≤ most)
IsWithin other count = Unit {0}

-- a key number or a budget
abbrev pub number_of : Data → Option NonZeroU16
number_of value = count_of k.Number value >>= non_zero

-- a key for an algorithm
abbrev pub key_for : Algorithm → List ℕ → Option SymmetricKey
key_for algorithm word = option_map (λ octets. record { algorithm = algorithm; octets = octets }) (key_in word)

-- whether a text may be the name of a customer: 1 to 200 octets, and no control character (Unicode, Cc)
abbrev pub is_name : List ℕ → Bool
is_name text = nat_lt 0 (length text) && nat_le (length text) 200 && not (list_any is_control (chars text))

-- the text at a key of a kind: a customer's name, or a path
abbrev pub text_of : Kind → List ℕ → Option (List ℕ)
text_of k.Name text = if is_name text then Some text else None
text_of other text = path_in text
