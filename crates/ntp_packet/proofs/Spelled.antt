-- The fields that octets spell.
use Rattle.std.proofs.Common.{◌≡◌, ℕ, zero, suc, ◌+◌, ◌-◌, ◌<◌, ◌≤◌, List, [], ◌∷◌, ◌++◌, length, take, drop, refl, ap, ◌∙◌, arith}
use Rattle.std.specs.List.{flat_map, AllByRecursion}
use Rattle.std.proofs.lemmas.List.{length-append, drop-take}
use Rattle.ntp_packet.specs.Field.{Field, field_octets, IsField, written_kind, written_length}
use Rattle.ntp_packet.specs.Fields.{first_field, first_fields, fields_of, SpellFields}
use Rattle.ntp_packet.proofs.Spelling.{length-field_octets, written_length-field, first_field-spelled, drop-field}

first_fields-nil : (n : ℕ) → first_fields n [] ≡ []
unfolding first_fields
first_fields-nil n = grind arith

first_fields-suc : (n : ℕ) (octets : List ℕ) → 0 < length octets
    → first_fields (suc n) octets ≡ first_field octets ∷ first_fields n (drop (written_length octets) octets)
unfolding first_fields
first_fields-suc n octets e = grind arith

-- fields are read back from their octets
first_fields-spelled : (fs : List Field) (n : ℕ) → AllByRecursion IsField fs → length (flat_map field_octets fs) ≤ n
    → first_fields n (flat_map field_octets fs) ≡ fs
first_fields-spelled [] n all room = first_fields-nil n
first_fields-spelled (f ∷ fs) zero all room = grind (arith, length-append, length-field_octets)
first_fields-spelled (f ∷ fs) (suc n) all room =
    let len = length-append (field_octets f) (flat_map field_octets fs) in
    let size = length-field_octets f in
    let some : 0 < length (field_octets f ++ flat_map field_octets fs) = omega arith in
    let rest : length (flat_map field_octets fs) ≤ n = omega arith in
    first_fields-suc n (field_octets f ++ flat_map field_octets fs) some
    ∙ rw (
      first_field-spelled f (flat_map field_octets fs) all.0,
      drop-field f (flat_map field_octets fs) all.0,
      first_fields-spelled fs n all.1 rest,
    ) refl

pub fields_of_spelled : (fs : List Field) → AllByRecursion IsField fs → fields_of (flat_map field_octets fs) ≡ fs
unfolding fields_of
fields_of_spelled fs all = first_fields-spelled fs (length (flat_map field_octets fs)) all (omega arith)

-- the octets of fields spell just those
pub SpellFields-fields : (octets : List ℕ) (fs : List Field) → AllByRecursion IsField fs → octets ≡ flat_map field_octets fs
    → SpellFields octets × (fields_of octets ≡ fs)
SpellFields-fields octets fs all e = grind (arith, fields_of_spelled)

-- what the octets of fields begin with, and what is behind the first
pub record FirstStands (octets : List ℕ) : Type 0 where
  pub long : written_length octets ≤ length octets
  pub least : 16 ≤ written_length octets
  pub fields : fields_of octets ≡ first_field octets ∷ fields_of (drop (written_length octets) octets)
  pub rest : SpellFields (drop (written_length octets) octets)

first_stands : (f : Field) (fs : List Field) → IsField f → AllByRecursion IsField fs
    → FirstStands (field_octets f ++ flat_map field_octets fs)
first_stands f fs i all =
    let len = length-append (field_octets f) (flat_map field_octets fs) in
    let size = length-field_octets f in
    let written = written_length-field f (flat_map field_octets fs) i in
    let least = i.least in
    record {
      long = omega arith;
      least = omega arith;
      fields = rw (first_field-spelled f (flat_map field_octets fs) i, drop-field f (flat_map field_octets fs) i, fields_of_spelled fs all)
          (fields_of_spelled (f ∷ fs) (i, all));
      rest = rw (drop-field f (flat_map field_octets fs) i) (SpellFields-fields (flat_map field_octets fs) fs all refl).0;
    }

stands_first : (octets : List ℕ) (fs : List Field) → 0 < length octets → AllByRecursion IsField fs
    → flat_map field_octets fs ≡ octets → FirstStands octets
stands_first octets [] some all e = absurd (omega (arith, ap length e))
stands_first octets (f ∷ fs) some all e = rw (← e) (first_stands f fs all.0 all.1)

-- where octets that spell fields are not at their end, a whole field stands first
pub SpellFields-first : (octets : List ℕ) → 0 < length octets → SpellFields octets → FirstStands octets
SpellFields-first octets some s = stands_first octets (fields_of octets) some s.each s.whole

pub fields_of-nil : (octets : List ℕ) → length octets ≡ 0 → fields_of octets ≡ []
fields_of-nil [] none = fields_of_spelled [] tt
fields_of-nil (octet ∷ octets) none = absurd (omega arith)

-- a field and what is behind it, cut from the octets where its length says
pub fields-next : (octets : List ℕ) (kind n : ℕ) (front value back : List ℕ) → FirstStands octets
    → kind ≡ written_kind octets → n ≡ written_length octets → front ≡ take n octets → back ≡ drop n octets → value ≡ drop 4 front
    → fields_of octets ≡ record { kind = kind; value = value } ∷ fields_of back
fields-next octets kind n front value back first k-is n-is front-is back-is value-is =
    let e : value ≡ take (written_length octets - 4) (drop 4 octets) =
    value-is ∙ rw (front-is, n-is) (take_behind (written_length octets) octets first.least) in
    rw (first.fields, k-is, e, back-is, n-is) refl
  where
    take_behind : (n : ℕ) (octets : List ℕ) → 16 ≤ n → drop 4 (take n octets) ≡ take (n - 4) (drop 4 octets)
    take_behind n octets least =
        let e : n ≡ 4 + (n - 4) = omega arith in
        ap (λ m. drop 4 (take m octets)) e ∙ drop-take 4 (n - 4) octets
