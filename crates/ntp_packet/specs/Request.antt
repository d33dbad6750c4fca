-- A packet as header, fields and tail.
use Rattle.std.specs.Prelude.{◌≡◌, ◌+◌, ◌≤◌, ℕ, List, ◌++◌, length}
use Rattle.std.specs.List.{flat_map}
use Rattle.ntp_packet.specs.Header.{HeaderFields, header_octets, IsHeader}
use Rattle.ntp_packet.specs.Field.{Field, field_octets, AreFields}
use Rattle.ntp_packet.specs.Tail.{TailValue, tail_octets, IsTail}

-- how many octets a datagram has at most (profile)
abbrev pub most_datagram_octets : ℕ
most_datagram_octets = 1024

-- a request: its parts, and the octets that a digest covers; the code's `Request` borrows them (RFC 5905, 7.3; RFC 7822, 3)
pub record RequestValue : Type 0 where
  pub header : HeaderFields
  pub fields : List Field
  pub signed : List ℕ
  pub tail : TailValue

-- the octets of a header and of the fields behind it (RFC 5905, 7.3; RFC 7822, 3)
unfoldable pub signed_octets : HeaderFields → List Field → List ℕ
signed_octets header fields = header_octets header ++ flat_map field_octets fields

-- what holds of every request: its parts have their form, and fit in a datagram (RFC 5905, 7.3; RFC 7822, 3; profile)
pub record IsReading (r : RequestValue) : Type 0 where
  pub header : IsHeader r.header
  pub signed : r.signed ≡ signed_octets r.header r.fields
  pub fields : AreFields r.fields (length (tail_octets r.tail))
  pub tail : IsTail r.tail
  pub fits : length r.signed + length (tail_octets r.tail) ≤ most_datagram_octets

-- the octets are this request, spelled part by part (RFC 5905, 7.3; RFC 7822, 3)
pub record IsRequest (octets : List ℕ) (r : RequestValue) : Type 0 where
  pub reading : IsReading r
  pub spelled : octets ≡ r.signed ++ tail_octets r.tail

-- the request of these parts
abbrev pub request_of : HeaderFields → List Field → TailValue → RequestValue
request_of header fields tail = record { header = header; fields = fields; signed = signed_octets header fields; tail = tail }
