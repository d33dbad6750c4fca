-- What is wrong with octets that are no request.
use Rattle.std.specs.Prelude.{◌≡◌, ◌≢◌, ℕ, ◌%◌, ◌<◌, ◌≤◌, List, ◌++◌, length}
use Rattle.ntp_packet.specs.Header.{header_length, HeaderFields, IsHeader}
use Rattle.ntp_packet.specs.Field.{Field, AreFields, written_length}
use Rattle.ntp_packet.specs.{Tail.most_tail_octets, Request.most_datagram_octets, Request.signed_octets}
use Rattle.ntp_packet.specs.declared.malformed.Malformed.{Malformed}
use Rattle.ntp_packet.specs.declared.malformed.Malformed.TheVariants.{Short, Long, FieldShort, FieldUnaligned, FieldPastEnd, Rest}

-- before the place stand a header and whole fields, each begun with more octets left than any tail has; then the rest (profile)
pub record Stands (octets : List ℕ) (place : ℕ) (rest : List ℕ) : Type 0 where
  pub header : HeaderFields
  pub fields : List Field
  pub is_header : IsHeader header
  pub are_fields : AreFields fields (length rest)
  pub spelled : octets ≡ signed_octets header fields ++ rest
  pub place_is : place ≡ length (signed_octets header fields)

-- the octets have a packet's length, and what is left from the place on has the fault (profile)
abbrev pub FailsAt : List ℕ → ℕ → (List ℕ → Type 0) → Type 0
FailsAt octets place fault =
    (header_length ≤ length octets) × (length octets ≤ most_datagram_octets) × (rest : List ℕ) × Stands octets place rest × fault rest

-- a field stands there, since more octets are left than any tail has, and its written length, beside how many are left, has the fault
-- (RFC 7822, 3; the split: profile)
abbrev pub FieldFails : List ℕ → ℕ → (ℕ → ℕ → Type 0) → Type 0
FieldFails octets place fault =
    FailsAt octets place (λ rest. (most_tail_octets < length rest) × fault (written_length rest) (length rest))

-- the octets have this fault: they are too few or too many; the length of a field is too small, else no multiple of 4, else more than what
-- is left; or what is left is no longer than a tail can be, and has no tail's length. No octets have two (RFC 7822, 3; profile)
abbrev pub Fails : List ℕ → Malformed → Type 0
Fails octets Short = length octets < header_length
Fails octets Long = most_datagram_octets < length octets
Fails octets (FieldShort at) = FieldFails octets at (λ written left. written < 16)
Fails octets (FieldUnaligned at) = FieldFails octets at (λ written left. (16 ≤ written) × (written % 4 ≢ 0))
Fails octets (FieldPastEnd at) = FieldFails octets at (λ written left. (16 ≤ written) × (written % 4 ≡ 0) × (left < written))
Fails octets (Rest at) = FailsAt octets at
    (λ rest. (length rest ≤ most_tail_octets) × (length rest ≢ 0) × (length rest ≢ 4) × (length rest ≢ 20) × (length rest ≢ 24))
