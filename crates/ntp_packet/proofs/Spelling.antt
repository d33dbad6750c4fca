-- A field that is read is spelled so, and what is spelled is read again.
use Rattle.std.proofs.Common.{◌≡◌, ℕ, ◌+◌, ◌-◌, ◌%◌, ◌^◌, ◌<◌, ◌≤◌, List, ◌++◌, length, take, drop, refl, sym, ap, ◌∙◌, arith}
use Rattle.std.specs.Int.{w16, to_be_bytes}
use Rattle.std.proofs.lemmas.List.{take_at, drop_at, length-take, length-drop}
use Rattle.std.proofs.lemmas.Nat.{be_bytes_2, from_be_bytes-to_be_bytes_2}
use Rattle.ntp_packet.specs.Field.{Field, field_octets, IsField, written_kind, written_length}
use Rattle.ntp_packet.specs.Fields.{first_field}
use Rattle.ntp_packet.proofs.Octets.{AreOctets, AreOctets-drop, AreOctets-take, in_parts}

pub length-field_octets : (f : Field) → length (field_octets f) ≡ 4 + length f.value
unfolding field_octets
length-field_octets f = omega arith

pub written_kind-field : (f : Field) (rest : List ℕ) → IsField f → written_kind (field_octets f ++ rest) ≡ f.kind
unfolding field_octets written_kind
written_kind-field f rest i = from_be_bytes-to_be_bytes_2 f.kind i.kind

pub written_length-field : (f : Field) (rest : List ℕ) → IsField f → written_length (field_octets f ++ rest) ≡ 4 + length f.value
unfolding field_octets written_length
written_length-field f rest i = from_be_bytes-to_be_bytes_2 (4 + length f.value) i.fits

drop_4-field : (f : Field) (rest : List ℕ) → drop 4 (field_octets f ++ rest) ≡ f.value ++ rest
unfolding field_octets
drop_4-field f rest = refl

-- the field at the front is the one that is spelled there
pub first_field-spelled : (f : Field) (rest : List ℕ) → IsField f → first_field (field_octets f ++ rest) ≡ f
first_field-spelled f rest i = grind (arith, written_length-field, drop_4-field, take_at, written_kind-field)

pub drop-field : (f : Field) (rest : List ℕ) → IsField f → drop (written_length (field_octets f ++ rest)) (field_octets f ++ rest) ≡ rest
drop-field f rest i = drop_at (field_octets f) rest _ (length-field_octets f ∙ sym (written_length-field f rest i))

-- a length that a field may have, and that does not lead past the end
pub record IsWhole (octets : List ℕ) : Type 0 where
  pub least : 16 ≤ written_length octets
  pub aligned : written_length octets % 4 ≡ 0
  pub whole : written_length octets ≤ length octets

module _ (octets : List ℕ) (are : AreOctets octets) where
  pub written_kind-fits : written_kind octets < 2 ^ 16
  unfolding written_kind
  written_kind-fits = let h = AreOctets-take 2 octets are in omega (arith, h 0, h 1)

  pub written_length-fits : written_length octets < 2 ^ 16
  unfolding written_length
  written_length-fits = let h = AreOctets-take 2 (drop 2 octets) (AreOctets-drop 2 octets are) in omega (arith, h 0, h 1)

  kind_octets : 2 ≤ length octets → to_be_bytes w16 (written_kind octets) ≡ take 2 octets
  unfolding written_kind
  kind_octets long = be_bytes_2 (take 2 octets) _ (omega (arith, length-take 2 octets)) (AreOctets-take 2 octets are) refl

  length_octets : 4 ≤ length octets → to_be_bytes w16 (written_length octets) ≡ take 2 (drop 2 octets)
  unfolding written_length
  length_octets long =
      be_bytes_2 (take 2 (drop 2 octets)) _ (omega (arith, length-take 2 (drop 2 octets), length-drop 2 octets))
      (AreOctets-take 2 (drop 2 octets) (AreOctets-drop 2 octets are)) refl

  pub length-first_field : IsWhole octets → 4 + length (first_field octets).value ≡ written_length octets
  length-first_field f = grind (arith, length-take, length-drop)

  -- then a field stands first
  pub IsField-first_field : IsWhole octets → IsField (first_field octets)
  IsField-first_field f = grind (arith, length-first_field, written_length-fits, written_kind-fits)

  pub first_field-octets : IsWhole octets → field_octets (first_field octets) ++ drop (written_length octets) octets ≡ octets
  unfolding field_octets
  first_field-octets f =
      let least = f.least in
      let whole = f.whole in
      same-parts _ _ _ _ (first_field octets).value _ (kind_octets (omega arith))
      (ap (to_be_bytes w16) (length-first_field f) ∙ length_octets (omega arith))
      ∙ in_parts octets (written_length octets) (omega arith)
    where
      same-parts : (a a' b b' c d : List ℕ) → a ≡ a' → b ≡ b' → (a ++ b ++ c) ++ d ≡ a' ++ b' ++ c ++ d
      same-parts a a' b b' c d p q = cc
