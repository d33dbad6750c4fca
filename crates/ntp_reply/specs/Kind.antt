-- What a datagram is to the address from which it came.
use Rattle.std.specs.Prelude.{ℕ, List, ◌==◌, ◌||◌, Option, ok_or, Result, Ok, Err}
use Rattle.ntp_packet.specs.{Header.HeaderFields, Request.RequestValue, declared.malformed.Malformed.Malformed}
use Rattle.ntp_packet.specs.FirstCase.{◌>>=◌, ◌>>◌, provided, decided}
use Rattle.ntp_packet.specs.Tail.{TailValue, NoTail, BareTail, MacTail}
use Rattle.ntp_mac.specs.{Key.SymmetricKey, Reading.reading_of, Signed.is_signed}
use Rattle.ntp_customer.specs.Customer.{Enrolment, held_in, enrolment_at}
use Rattle.ntp_customer.specs.Past.{Past}
use Rattle.ntp_reply.specs.declared.answers.Reason.{Reason}
use Rattle.ntp_reply.specs.declared.answers.Reason.TheVariants as reason

-- what a datagram is, whatever it is answered: passed over, refused by DENY or by a crypto-NAK, or signed under a key with its number
-- (profile)
pub data Kind : Type 0 where
  PassedOver : Reason → Kind
  RefusedByDeny : HeaderFields → Kind
  RefusedByNak : HeaderFields → Kind
  Signed : SymmetricKey → ℕ → HeaderFields → Kind

-- the key number of a request's MAC: without a MAC the request is refused, and a bare key number is passed over (RFC 5905; profile)
abbrev pub mac_number : RequestValue → TailValue → Result ℕ Kind
mac_number r NoTail = Err (RefusedByDeny r.header)
mac_number r (BareTail number) = Err (PassedOver reason.Bare)
mac_number r (MacTail number digest) = Ok number

-- octets, as they are read, from an address that was enrolled once, by its enrolment, if it has one now; the first case that applies
-- decides (profile)
abbrev pub octets_kind : Option Enrolment → Result RequestValue Malformed → Kind
octets_kind enrolment (Err fault) = PassedOver (reason.Malformed fault)
octets_kind enrolment (Ok r) = decided do
  provided ((r.header.version == 3) || (r.header.version == 4)) (PassedOver reason.Version)
  provided (r.header.mode == 3) (PassedOver reason.Mode)
  e ← ok_or enrolment (RefusedByDeny r.header)
  number ← mac_number r r.tail
  k ← ok_or (held_in e number) (RefusedByNak r.header)
  provided (is_signed k.key k.number r) (RefusedByNak r.header)
  Ok (Signed k.key k.number r.header)

-- a datagram (profile)
abbrev pub kind_of : Past → List ℕ → Kind
kind_of past octets = octets_kind (enrolment_at past) (reading_of octets)
