-- Every 48 octets are read as one header.
use Rattle.std.proofs.Common.{◌≡◌, ℕ, ◌+◌, ◌*◌, ◌/◌, ◌%◌, ◌^◌, ◌≤◌, ◌<◌, List, [], ◌∷◌, length, get_or, take, drop, refl, sym, ap, subst, ◌∙◌, arith, rules}
use Rattle.std.specs.Prelude.{All}
use Rattle.std.specs.Int.{w8, w32, w64, cast_signed, to_be_bytes, from_be_bytes}
use Rattle.std.proofs.{lemmas.Int.of_z-to_z, lemmas.Int.to_z-of_z, Math.Facts.sfits_to_z, lemmas.Bool.cases_lt}
use Rattle.std.proofs.lemmas.List.{take_all, length-take, length-drop, get_or-take, get_or-drop, get_or_past, get_or_default}
use Rattle.std.proofs.lemmas.Nat.{be_bytes_4, be_bytes_8, from_be_bytes-to_be_bytes_4, from_be_bytes-to_be_bytes_8}
use Rattle.ntp_packet.specs.{declared.stamp.Stamp.Stamp, declared.stamp.Short.Short}
use Rattle.ntp_packet.specs.Header.{HeaderFields, first_octets, header_octets, IsHeader}
use Rattle.ntp_packet.proofs.Parts.{read-parts, first-fields, four-cells}

-- the numbers in four and in eight octets
abbrev short_in : List ℕ → Short
short_in part = record { 0 = from_be_bytes w32 part }

abbrev stamp_in : List ℕ → Stamp
stamp_in part = record { 0 = from_be_bytes w64 part }

-- the header that 48 octets spell
abbrev pub header_in : List ℕ → HeaderFields
header_in b = record {
  version = get_or b 0 0 / 8 % 8;
  mode = get_or b 0 0 % 8;
  poll = cast_signed w8 (get_or b 2 0);
  clock = record {
    leap = get_or b 0 0 / 64;
    stratum = get_or b 1 0;
    precision = cast_signed w8 (get_or b 3 0);
    root_delay = short_in (take 4 (drop 4 b));
    root_dispersion = short_in (take 4 (drop 8 b));
    reference_id = take 4 (drop 12 b);
    reference = stamp_in (take 8 (drop 16 b));
  };
  origin = stamp_in (take 8 (drop 24 b));
  receive = stamp_in (take 8 (drop 32 b));
  transmit = stamp_in (take 8 (drop 40 b));
}

-- each is an octet, past the end too
abbrev AreOctets : List ℕ → Type 0
AreOctets b = (i : ℕ) → get_or b i 0 < 256

pub octets-all : (b : List ℕ) → All (λ octet. octet < 256) b → AreOctets b
octets-all b all i = grind (arith, cases_lt, get_or_past)

octets-part : (n k : ℕ) (b : List ℕ) → AreOctets b → AreOctets (take n (drop k b))
octets-part n k b octets i = grind (arith, cases_lt, get_or-take, get_or-drop, get_or_past, length-take)

module _ (b : List ℕ) (len : length b ≡ 48) (octets : AreOctets b) where
  part-length : (n k : ℕ) → n + k ≤ 48 → length (take n (drop k b)) ≡ n
  part-length n k fits = omega (arith, length-take n (drop k b), length-drop k b)

  short-part : (k : ℕ) → 4 + k ≤ 48 → to_be_bytes w32 (from_be_bytes w32 (take 4 (drop k b))) ≡ take 4 (drop k b)
  short-part k fits = be_bytes_4 (take 4 (drop k b)) _ (part-length 4 k fits) (octets-part 4 k b octets) refl

  stamp-part : (k : ℕ) → 8 + k ≤ 48 → to_be_bytes w64 (from_be_bytes w64 (take 8 (drop k b))) ≡ take 8 (drop k b)
  stamp-part k fits = be_bytes_8 (take 8 (drop k b)) _ (part-length 8 k fits) (octets-part 8 k b octets) refl

  -- the first four of them
  front-cell : (i : ℕ) → i < 4 → get_or (take 4 b) i 0 ≡ get_or b i 0
  front-cell i lt = get_or-take 4 b i 0 lt

  front-part : first_octets (header_in b) ≡ take 4 b
  front-part = grind (arith, first-fields, length-take, front-cell, of_z-to_z)

  -- the header that the octets spell is spelled by them
  pub spelled-again : header_octets (header_in b) ≡ b
  spelled-again =
      read-parts (header_in b) b front-part (short-part 4 (omega arith)) (short-part 8 (omega arith)) refl
      (stamp-part 16 (omega arith)) (stamp-part 24 (omega arith)) (stamp-part 32 (omega arith)) (stamp-part 40 (omega arith))
      ∙ take_all 48 b (omega arith)

  -- its fields have their widths
  pub fits-in : IsHeader (header_in b)
  fits-in = record {
    leap = let o = octets 0 in omega arith;
    version = omega arith;
    mode = omega arith;
    stratum = octets 1;
    poll = sfits_to_z {w = w8} {n = get_or b 2 0} (let o : get_or b 2 0 < 2 ^ 8 = octets 2 in search rules);
    precision = sfits_to_z {w = w8} {n = get_or b 3 0} (let o : get_or b 3 0 < 2 ^ 8 = octets 3 in search rules);
    root_delay = short-below 4;
    root_dispersion = short-below 8;
    reference_id = (part-length 4 12 (omega arith), λ i d lt. same-part i d lt);
    reference = stamp-below 16;
    origin = stamp-below 24;
    receive = stamp-below 32;
    transmit = stamp-below 40;
  }
    where
      short-below : (k : ℕ) → from_be_bytes w32 (take 4 (drop k b)) < 2 ^ 32
      short-below k = let o = octets-part 4 k b octets in omega (arith, o 0, o 1, o 2, o 3)

      stamp-below : (k : ℕ) → from_be_bytes w64 (take 8 (drop k b)) < 2 ^ 64
      stamp-below k = let o = octets-part 8 k b octets in omega (arith, o 0, o 1, o 2, o 3, o 4, o 5, o 6, o 7)

      same-part : (i d : ℕ) → i < length (take 4 (drop 12 b)) → get_or (take 4 (drop 12 b)) i d < 256
      same-part i d lt = rw (get_or_default (take 4 (drop 12 b)) i d 0 lt) (octets-part 4 12 b octets i)

-- the three fields of the first octet
top-bits : (l v m : ℕ) → l < 4 → v < 8 → m < 8 → (l * 64 + v * 8 + m) / 64 ≡ l
top-bits l v m hl hv hm = omega arith

middle-bits : (l v m : ℕ) → l < 4 → v < 8 → m < 8 → (l * 64 + v * 8 + m) / 8 % 8 ≡ v
middle-bits l v m hl hv hm = omega arith

low-bits : (l v m : ℕ) → l < 4 → v < 8 → m < 8 → (l * 64 + v * 8 + m) % 8 ≡ m
low-bits l v m hl hv hm = omega arith

-- a header with this identifier
abbrev with_id : HeaderFields → List ℕ → HeaderFields
with_id h id = record h { clock = record h.clock { reference_id = id } }

-- a header is the one that its octets spell, where the identifier's four octets are given one by one
cells-again : (h : HeaderFields) (a b c d : ℕ) → IsHeader h
    → header_in (header_octets (with_id h (a ∷ b ∷ c ∷ d ∷ []))) ≡ with_id h (a ∷ b ∷ c ∷ d ∷ [])
unfolding header_octets
cells-again h a b c d is = grind (arith, middle-bits, low-bits, to_z-of_z, top-bits, from_be_bytes-to_be_bytes_4, from_be_bytes-to_be_bytes_8)

-- a header is the one that its octets spell
pub header-again : (h : HeaderFields) → IsHeader h → header_in (header_octets h) ≡ h
header-again h is =
    let P : List ℕ → Type 0 =
    λ id. header_in (header_octets (with_id h id)) ≡ with_id h id in
    subst P (four-cells h.clock.reference_id is.reference_id.0) (cells-again h _ _ _ _ is)

-- there is no other
pub only-header : (h : HeaderFields) (b : List ℕ) → IsHeader h → header_octets h ≡ b → h ≡ header_in b
only-header h b is e = sym (header-again h is) ∙ ap header_in e

-- a header has 48 octets
pub length_header_octets : (h : HeaderFields) → IsHeader h → length (header_octets h) ≡ 48
unfolding header_octets
length_header_octets h is = grind (arith, four-cells)
