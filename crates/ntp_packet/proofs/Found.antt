-- What stands before the tail, and the tail, are a request.
use Rattle.std.proofs.Common.{◌≡◌, ℕ, ◌≤◌, List, [], ◌∷◌, length, take, drop, sym, ap, ◌∙◌, arith}
use Rattle.std.specs.List.{AllByRecursion}
use Rattle.std.proofs.lemmas.List.{take_at, length-append}
use Rattle.ntp_packet.specs.Header.{HeaderFields, header_octets, IsHeader}
use Rattle.ntp_packet.specs.Field.{Field, IsField, AreFields}
use Rattle.ntp_packet.specs.{Fields.fields_of, Fields.SpellFields, Request.IsRequest, Request.signed_octets, Faults.Stands}
use Rattle.ntp_packet.specs.Tail.{TailValue, tail_octets, IsTail}
use Rattle.ntp_packet.proofs.Headers.{take-signed, drop-header, length-signed, same-header}
use Rattle.ntp_packet.proofs.Spelled.{SpellFields-fields}

pub AreFields-each : (fs : List Field) (after : ℕ) → AreFields fs after → AllByRecursion IsField fs
AreFields-each [] after are = tt
AreFields-each (f ∷ fs) after are = (are.0, AreFields-each fs after are.2)

module _ (octets : List ℕ) (place : ℕ) (rest : List ℕ) (s : Stands octets place rest) where
  -- a place is behind the header
  pub place_behind : 48 ≤ place
  place_behind = omega (arith, s.place_is, length-signed s.header s.fields s.is_header)

  take-place : take place octets ≡ signed_octets s.header s.fields
  take-place = ap (take place) s.spelled ∙ take_at (signed_octets s.header s.fields) rest place (sym s.place_is)

  module _ (signed behind : List ℕ) (signed-is : signed ≡ take place octets) (behind-is : behind ≡ drop 48 signed) where
    spelled-behind : SpellFields behind × (fields_of behind ≡ s.fields)
    spelled-behind = grind (arith, SpellFields-fields, AreFields-each, take-place, drop-header)

    -- what stands between the header and the place are fields
    pub fields-behind : SpellFields behind
    fields-behind = spelled-behind.0

    pub is-request : (h : HeaderFields) (tail : TailValue) → IsHeader h → header_octets h ≡ take 48 octets → length octets ≤ 1024
        → IsTail tail → tail_octets tail ≡ rest
        → IsRequest octets (record { header = h; fields = fields_of behind; signed = signed; tail = tail })
    is-request h tail is-header h-is fits is-tail tail-is = grind (arith, spelled-behind, same-header, take-signed, take-place, length-append)
