-- The fields that octets spell.
use Rattle.std.specs.Prelude.{◌≡◌, ℕ, zero, suc, ◌-◌, List, [], ◌∷◌, length, take, drop}
use Rattle.std.specs.{List.flat_map, List.AllByRecursion, Borrow.Bor}
use Rattle.ntp_packet.specs.Field.{Field, field_octets, IsField, written_kind, written_length}

-- the field at the front of the octets: its length counts the four octets before its value (RFC 7822, 3)
abbrev pub first_field : List ℕ → Field
first_field octets = record { kind = written_kind octets; value = take (written_length octets - 4) (drop 4 octets) }

-- the first fields that the octets spell, up to a number of them
unfoldable pub first_fields : ℕ → List ℕ → List Field
first_fields zero octets = []
first_fields (suc n) [] = []
first_fields (suc n) (octet ∷ octets) =
    first_field (octet ∷ octets) ∷ first_fields n (drop (written_length (octet ∷ octets)) (octet ∷ octets))

-- the fields that the octets spell, one after another
unfoldable pub fields_of : List ℕ → List Field
fields_of octets = first_fields (length octets) octets

-- the octets are those of fields, one after another
pub record SpellFields (octets : List ℕ) : Type 0 where
  pub each : AllByRecursion IsField (fields_of octets)
  pub whole : flat_map field_octets (fields_of octets) ≡ octets

-- a field as it is lent: its kind, and its value
abbrev pub field_seen : ℕ × Bor (List ℕ) → Field
field_seen item = record { kind = item.0; value = item.1.now }
