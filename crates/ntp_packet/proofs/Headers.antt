-- Octets that begin with a header.
use Rattle.std.proofs.Common.{◌≡◌, ℕ, ◌+◌, ◌≤◌, arith, List, ◌++◌, length, take, drop, refl, sym, ◌∙◌, append_assoc, rules}
use Rattle.std.specs.List.{flat_map}
use Rattle.std.proofs.lemmas.List.{take_at, drop_at, length-append, length-take}
use Rattle.ntp_packet.specs.Header.{HeaderFields, header_octets, IsHeader}
use Rattle.ntp_packet.proofs.Readings.{header_in, fits-in, spelled-again, only-header, length_header_octets}
use Rattle.ntp_packet.specs.{Field.Field, Field.field_octets, Request.signed_octets}
use Rattle.ntp_packet.proofs.Octets.{AreOctets, AreOctets-take}

pub length-signed : (h : HeaderFields) (fs : List Field) → IsHeader h → length (signed_octets h fs) ≡ 48 + length (flat_map field_octets fs)
unfolding signed_octets
length-signed h fs is = omega (arith, length-append (header_octets h) (flat_map field_octets fs), length_header_octets h is)

-- the header at the front
pub take-signed : (h : HeaderFields) (fs : List Field) (rest : List ℕ) → IsHeader h → take 48 (signed_octets h fs ++ rest) ≡ header_octets h
unfolding signed_octets
take-signed h fs rest is = search (rules, is, append_assoc, take_at, length_header_octets)

-- what stands behind it
pub drop-signed : (h : HeaderFields) (fs : List Field) (rest : List ℕ) → IsHeader h
    → drop 48 (signed_octets h fs ++ rest) ≡ flat_map field_octets fs ++ rest
unfolding signed_octets
drop-signed h fs rest is = search (rules, is, append_assoc, drop_at, length_header_octets)

-- the fields behind it
pub drop-header : (h : HeaderFields) (fs : List Field) → IsHeader h → drop 48 (signed_octets h fs) ≡ flat_map field_octets fs
unfolding signed_octets
drop-header h fs is = drop_at (header_octets h) (flat_map field_octets fs) 48 (length_header_octets h is)

-- octets begin with one header at most
pub same-header : (h h' : HeaderFields) → IsHeader h → IsHeader h' → header_octets h ≡ header_octets h' → h ≡ h'
same-header h h' is is' e = only-header h (header_octets h') is e ∙ sym (only-header h' (header_octets h') is' refl)

-- a header at the front of octets
pub record HeaderThere (octets : List ℕ) : Type 0 where
  pub header : HeaderFields
  pub is : IsHeader header
  pub spelled : header_octets header ≡ take 48 octets

-- 48 octets or more begin with a header
pub header-there : (octets : List ℕ) → AreOctets octets → 48 ≤ length octets → HeaderThere octets
header-there octets are long =
    let len : length (take 48 octets) ≡ 48 = omega (arith, length-take 48 octets) in
    let front = AreOctets-take 48 octets are in
    record {
      header = header_in (take 48 octets);
      is = fits-in (take 48 octets) len front;
      spelled = spelled-again (take 48 octets) len front;
    }
