-- An extension field, and its octets.
use Rattle.std.specs.Prelude.{◌≡◌, ℕ, ◌+◌, ◌-◌, ◌*◌, ◌/◌, ◌%◌, ◌^◌, ◌<◌, ◌≤◌, max, List, [], ◌∷◌, ◌++◌, length, take, drop, replicate}
use Rattle.std.specs.List.{flat_map}
use Rattle.std.specs.Int.{w16, to_be_bytes, from_be_bytes}
use Rattle.ntp_packet.specs.Tail.{most_tail_octets}

-- an extension field: its kind, and its value with the padding; the code's `Field` borrows its value (RFC 7822, 3)
pub record Field : Type 0 where
  pub kind : ℕ
  pub value : List ℕ

-- the octets of a field: the kind, the length of the whole field, the value (RFC 7822, 3)
unfoldable pub field_octets : Field → List ℕ
field_octets f = to_be_bytes w16 f.kind ++ to_be_bytes w16 (4 + length f.value) ++ f.value

-- the kind and the length have 16 bits; the length is a multiple of 4 and at least 16 (RFC 7822, 3)
pub record IsField (f : Field) : Type 0 where
  pub kind : f.kind < 2 ^ 16
  pub fits : 4 + length f.value < 2 ^ 16
  pub aligned : (4 + length f.value) % 4 ≡ 0
  pub least : 16 ≤ 4 + length f.value

-- fields that `after` octets follow: each begins where more octets are left than any tail has (profile)
abbrev pub AreFields : List Field → ℕ → Type 0
AreFields [] after = Unit {0}
AreFields (f ∷ fs) after = IsField f × (most_tail_octets < length (flat_map field_octets (f ∷ fs)) + after) × AreFields fs after

-- the kind that is written at the front of a field's octets (RFC 7822, 3)
unfoldable pub written_kind : List ℕ → ℕ
written_kind octets = from_be_bytes w16 (take 2 octets)

-- the length that is written behind the kind (RFC 7822, 3)
unfoldable pub written_length : List ℕ → ℕ
written_length octets = from_be_bytes w16 (take 2 (drop 2 octets))

-- how many zeros follow a value of n octets: up to a multiple of 4, and to at least 12 (RFC 7822, 3)
abbrev pub padding : ℕ → ℕ
padding n = max 12 ((n + 3) / 4 * 4) - n

-- a field of this kind with this value and the zeros behind it (RFC 7822, 3)
abbrev pub padded_field : ℕ → List ℕ → Field
padded_field kind value = record { kind = kind; value = value ++ replicate (padding (length value)) 0 }
