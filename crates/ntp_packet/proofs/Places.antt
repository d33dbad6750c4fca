-- Going from field to field.
use Rattle.std.proofs.Common.{◌≡◌, ℕ, ◌+◌, ◌-◌, ◌%◌, ◌<◌, ◌≤◌, List, [], ◌∷◌, ◌++◌, length, take, drop, sym, ap, subst, ◌∙◌, append_assoc, arith}
use Rattle.std.specs.List.{flat_map}
use Rattle.std.proofs.lemmas.List.{length-append, length-take, length-drop, drop-drop, append-nil, flat_map_more, take-append-drop}
use Rattle.ntp_packet.specs.Header.{HeaderFields, header_octets, IsHeader}
use Rattle.ntp_packet.specs.Field.{Field, field_octets, IsField, AreFields, written_length}
use Rattle.ntp_packet.specs.{Fields.first_field, Request.signed_octets, Faults.Stands, Faults.FailsAt}
use Rattle.ntp_packet.proofs.{Headers.length-signed, Octets.AreOctets, Octets.AreOctets-behind}
use Rattle.ntp_packet.proofs.Spelling.{length-field_octets, IsWhole, length-first_field, IsField-first_field, first_field-octets}

-- one more field at the end
AreFields-push : (fs : List Field) (f : Field) (after : ℕ) → AreFields fs (length (field_octets f) + after) → IsField f
    → 24 < length (field_octets f) + after → AreFields (fs ++ f ∷ []) after
AreFields-push [] f after are is more = (is, rw append-nil more, tt)
AreFields-push (g ∷ fs) f after are is more =
    let first = are.1 in
    let len-before = length-append (field_octets g) (flat_map field_octets fs) in
    let len-after = length-append (field_octets g) (flat_map field_octets (fs ++ f ∷ [])) in
    let len-rest = ap length (flat_map_more field_octets [] fs f) in
    let len-fields = length-append (flat_map field_octets fs) (field_octets f) in
    (are.0, omega arith, AreFields-push fs f after are.2 is more)

signed-push : (h : HeaderFields) (fs : List Field) (f : Field) → signed_octets h (fs ++ f ∷ []) ≡ signed_octets h fs ++ field_octets f
unfolding signed_octets
signed-push h fs f = sym (flat_map_more field_octets (header_octets h) fs f)

signed-nil : (h : HeaderFields) → signed_octets h [] ≡ header_octets h
unfolding signed_octets
signed-nil h = append-nil (header_octets h)

-- behind a header stands what is left of the octets
pub Stands-first : (octets : List ℕ) (h : HeaderFields) → IsHeader h → header_octets h ≡ take 48 octets → 48 ≤ length octets
    → Stands octets 48 (drop 48 octets)
Stands-first octets h is e long = record {
  header = h;
  fields = [];
  is_header = is;
  are_fields = tt;
  spelled = rw (signed-nil h, e) (sym (take-append-drop 48 octets));
  place_is = rw (signed-nil h, e) (omega (arith, length-take 48 octets));
}

-- behind a field stands what is left behind it
Stands-push : (octets : List ℕ) (place : ℕ) (rest : List ℕ) (f : Field) (after : List ℕ) → Stands octets place rest → IsField f
    → field_octets f ++ after ≡ rest → 24 < length rest → Stands octets (place + length (field_octets f)) after
Stands-push octets place rest f after s is e more = grind (arith, length-append, AreFields-push, signed-push, append_assoc)

pub Stands-octets : (octets : List ℕ) (place : ℕ) (rest : List ℕ) → Stands octets place rest → AreOctets octets → AreOctets rest
Stands-octets octets place rest s are =
    AreOctets-behind (signed_octets s.header s.fields) rest (rw s.spelled at are)

-- the step over a field whose length fits
pub Stands-next : (octets : List ℕ) (place : ℕ) (rest : List ℕ) → Stands octets place rest → AreOctets octets
    → 24 < length rest → IsWhole rest → Stands octets (place + written_length rest) (drop (written_length rest) rest)
Stands-next octets place rest s are more whole =
    let mine = Stands-octets octets place rest s are in
    let len : length (field_octets (first_field rest)) ≡ written_length rest =
    length-field_octets (first_field rest) ∙ length-first_field rest mine whole in
    let P : ℕ → Type 0 = λ n. Stands octets (place + n) (drop (written_length rest) rest) in
    subst P len (Stands-push octets place rest (first_field rest) (drop (written_length rest) rest) s
    (IsField-first_field rest mine whole) (first_field-octets rest mine whole) more)

-- the same within the octets: part is what is left from the place on
pub Stands_on : (octets : List ℕ) (at n : ℕ) (part : List ℕ) → AreOctets octets → (at ≤ length octets) × Stands octets at (drop at octets)
    → part ≡ drop at octets → 24 < length octets - at → n ≡ written_length part → 16 ≤ n → n % 4 ≡ 0 → n ≤ length part
    → (at + n ≤ length octets) × Stands octets (at + n) (drop (at + n) octets)
Stands_on octets at n part are s part-is more n-is least aligned whole =
    let len = ap length part-is ∙ length-drop at octets in
    let here : Stands octets at part = rw part-is s.1 in
    let next =
    Stands-next octets at part here are (omega arith)
    (record { least = rw (← n-is) least; aligned = rw (← n-is) aligned; whole = rw (← n-is) whole }) in
    let within = s.0 in
    let back : drop n part ≡ drop (at + n) octets = rw part-is (drop-drop n at octets) in
    let P : ℕ → List ℕ → Type 0 = λ k rest. Stands octets (at + k) rest in
    (omega arith, subst (P n) back (subst (λ k. P k (drop k part)) (sym n-is) next))

-- where a header and fields stand first there are 48 octets at least
pub Stands-long : (octets : List ℕ) (place : ℕ) (rest : List ℕ) → Stands octets place rest → 48 ≤ length octets
Stands-long octets place rest s = grind (arith, length-append, length-signed)

-- what is wrong with what is left from a place on is wrong with the octets
pub fails_at : (fault : List ℕ → Type 0) (octets : List ℕ) (place : ℕ) (rest : List ℕ) → length octets ≤ 1024
    → Stands octets place rest → fault rest → FailsAt octets place fault
fails_at fault octets place rest fits s f = (Stands-long octets place rest s, fits, rest, s, f)
