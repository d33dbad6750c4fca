-- Where going from field to field ends, and that it ends at one place.
use Rattle.std.proofs.Common.{◌≡◌, ℕ, ◌<◌, List, [], ◌∷◌, ◌++◌, length, take, drop, refl, sym, ap, ◌∙◌, append_assoc, arith}
use Rattle.std.specs.List.{flat_map}
use Rattle.std.proofs.lemmas.List.{length-append}
use Rattle.ntp_packet.specs.Field.{Field, field_octets, IsField, AreFields, written_length}
use Rattle.ntp_packet.specs.{Fields.first_field, Faults.Stands}
use Rattle.ntp_packet.proofs.Headers.{take-signed, drop-signed, same-header}
use Rattle.ntp_packet.proofs.Spelling.{IsWhole, length-field_octets, written_length-field, first_field-spelled, drop-field}

-- a field begins, and all of it is there
pub record Begins (rest : List ℕ) : Type 0 where
  pub more : 24 < length rest
  pub whole : IsWhole rest

Begins-field : (f : Field) (rest : List ℕ) → IsField f → 24 < length (field_octets f ++ rest) → Begins (field_octets f ++ rest)
Begins-field f rest is more = grind (arith, written_length-field, length-append, length-field_octets)

Begins-fields : (g : Field) (gs : List Field) (rest : List ℕ) → AreFields (g ∷ gs) (length rest)
    → Begins (flat_map field_octets (g ∷ gs) ++ rest)
Begins-fields g gs rest are =
    let more = are.1 in
    let len = length-append (field_octets g ++ flat_map field_octets gs) rest in
    let e = append_assoc (field_octets g) (flat_map field_octets gs) rest in
    let more' : 24 < length (field_octets g ++ (flat_map field_octets gs ++ rest)) = omega (arith, ap length e) in
    rw e (Begins-field g (flat_map field_octets gs ++ rest) are.0 more')

-- the fields before the end, and what is left there, are one
pub same-fields : (fs gs : List Field) (r s : List ℕ) → AreFields fs (length r) → AreFields gs (length s)
    → (Begins r → ⊥) → (Begins s → ⊥) → flat_map field_octets fs ++ r ≡ flat_map field_octets gs ++ s → (fs ≡ gs) × (r ≡ s)
same-fields [] [] r s are are' end end' e = (refl, e)
same-fields [] (g ∷ gs) r s are are' end end' e = absurd (end (rw e (Begins-fields g gs s are')))
same-fields (f ∷ fs) [] r s are are' end end' e = absurd (end' (rw (← e) (Begins-fields f fs r are)))
same-fields (f ∷ fs) (g ∷ gs) r s are are' end end' e =
    let one =
    sym (append_assoc (field_octets f) (flat_map field_octets fs) r) ∙ e ∙ append_assoc (field_octets g) (flat_map field_octets gs) s in
    let first : f ≡ g =
    sym (first_field-spelled f (flat_map field_octets fs ++ r) are.0) ∙ ap first_field one
    ∙ first_field-spelled g (flat_map field_octets gs ++ s) are'.0 in
    let behind =
    sym (drop-field f (flat_map field_octets fs ++ r) are.0) ∙ ap (λ octets. drop (written_length octets) octets) one
    ∙ drop-field g (flat_map field_octets gs ++ s) are'.0 in
    let rest = same-fields fs gs r s are.2 are'.2 end end' behind in
    (rw (first, rest.0) refl, rest.1)

-- two ends of the same octets are one: header, fields, place and rest
pub record SameEnd (octets : List ℕ) (p : ℕ) (r : List ℕ) (q : ℕ) (s : List ℕ)
    (x : Stands octets p r) (y : Stands octets q s) : Type 0 where
  pub header : x.header ≡ y.header
  pub fields : x.fields ≡ y.fields
  pub place : p ≡ q
  pub rest : r ≡ s

pub same-end : (octets : List ℕ) (p : ℕ) (r : List ℕ) (q : ℕ) (s : List ℕ) (x : Stands octets p r) (y : Stands octets q s)
    → (Begins r → ⊥) → (Begins s → ⊥) → SameEnd octets p r q s x y
same-end octets p r q s x y end end' =
    let header = same-header x.header y.header x.is_header y.is_header
    (sym (take-signed x.header x.fields r x.is_header) ∙ ap (take 48) (sym x.spelled ∙ y.spelled)
    ∙ take-signed y.header y.fields s y.is_header) in
    let behind =
    sym (drop-signed x.header x.fields r x.is_header) ∙ ap (drop 48) (sym x.spelled ∙ y.spelled)
    ∙ drop-signed y.header y.fields s y.is_header in
    let rest = same-fields x.fields y.fields r s x.are_fields y.are_fields end end' behind in
    record {
      header = header;
      fields = rest.0;
      place = x.place_is ∙ rw (header, rest.0) (sym y.place_is);
      rest = rest.1;
    }
