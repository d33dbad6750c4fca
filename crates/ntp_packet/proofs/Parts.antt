-- Octets as their parts, one after another.
use Rattle.std.proofs.Common.{◌≡◌, ℕ, ℤ, ◌+◌, ◌*◌, ◌/◌, ◌%◌, ◌≤◌, ◌<◌, List, [], ◌∷◌, ◌++◌, length, get_or, take, drop, sym, ◌∙◌, arith}
use Rattle.std.proofs.{lemmas.Grind.common_steps, Math.Seq.take-add, lemmas.Int.of_z-to_z, lemmas.List.take_all}
use Rattle.std.specs.Int.{w8, w32, w64, cast_unsigned, cast_signed, to_be_bytes}
use Rattle.ntp_packet.specs.Header.{HeaderFields, first_octets, header_octets}

-- eight parts, each put behind those before it
put-parts : (p1 p2 p3 p4 p5 p6 p7 p8 o1 o2 o3 o4 o5 o6 o7 o8 : List ℕ)
    → take 4 o1 ≡ p1 → take 8 o2 ≡ take 4 o1 ++ p2 → take 12 o3 ≡ take 8 o2 ++ p3 → take 16 o4 ≡ take 12 o3 ++ p4
    → take 24 o5 ≡ take 16 o4 ++ p5 → take 32 o6 ≡ take 24 o5 ++ p6 → take 40 o7 ≡ take 32 o6 ++ p7
    → take 48 o8 ≡ take 40 o7 ++ p8
    → take 48 o8 ≡ p1 ++ p2 ++ p3 ++ p4 ++ p5 ++ p6 ++ p7 ++ p8
put-parts p1 p2 p3 p4 p5 p6 p7 p8 o1 o2 o3 o4 o5 o6 o7 o8 e1 e2 e3 e4 e5 e6 e7 e8 = cc

-- the parts of a header, each put behind those before it
pub put-header : (h : HeaderFields) (o1 o2 o3 o4 o5 o6 o7 o8 : List ℕ) → length o8 ≤ 48
    → take 4 o1 ≡ first_octets h → take 8 o2 ≡ take 4 o1 ++ to_be_bytes w32 h.clock.root_delay.0
    → take 12 o3 ≡ take 8 o2 ++ to_be_bytes w32 h.clock.root_dispersion.0 → take 16 o4 ≡ take 12 o3 ++ h.clock.reference_id
    → take 24 o5 ≡ take 16 o4 ++ to_be_bytes w64 h.clock.reference.0 → take 32 o6 ≡ take 24 o5 ++ to_be_bytes w64 h.origin.0
    → take 40 o7 ≡ take 32 o6 ++ to_be_bytes w64 h.receive.0 → take 48 o8 ≡ take 40 o7 ++ to_be_bytes w64 h.transmit.0
    → o8 ≡ header_octets h
unfolding header_octets
put-header h o1 o2 o3 o4 o5 o6 o7 o8 fits e1 e2 e3 e4 e5 e6 e7 e8 =
    sym (take_all 48 o8 fits) ∙ put-parts _ _ _ _ _ _ _ _ o1 o2 o3 o4 o5 o6 o7 o8 e1 e2 e3 e4 e5 e6 e7 e8

-- the first 48 octets, part by part
parts-48 : (b : List ℕ)
    → take 48 b ≡ take 4 b ++ take 4 (drop 4 b) ++ take 4 (drop 8 b) ++ take 4 (drop 12 b)
    ++ take 8 (drop 16 b) ++ take 8 (drop 24 b) ++ take 8 (drop 32 b) ++ take 8 (drop 40 b)
parts-48 b = grind (arith, take-add)

-- a header whose parts are those of the octets
pub read-parts : (h : HeaderFields) (b : List ℕ) → first_octets h ≡ take 4 b
    → to_be_bytes w32 h.clock.root_delay.0 ≡ take 4 (drop 4 b) → to_be_bytes w32 h.clock.root_dispersion.0 ≡ take 4 (drop 8 b)
    → h.clock.reference_id ≡ take 4 (drop 12 b)
    → to_be_bytes w64 h.clock.reference.0 ≡ take 8 (drop 16 b) → to_be_bytes w64 h.origin.0 ≡ take 8 (drop 24 b)
    → to_be_bytes w64 h.receive.0 ≡ take 8 (drop 32 b) → to_be_bytes w64 h.transmit.0 ≡ take 8 (drop 40 b)
    → header_octets h ≡ take 48 b
unfolding header_octets
read-parts h b e1 e2 e3 e4 e5 e6 e7 e8 =
    joined _ _ _ _ _ _ _ _ _ _ _ _ _ _ _ _ e1 e2 e3 e4 e5 e6 e7 e8 ∙ sym (parts-48 b)
  where
    joined : (a1 a2 a3 a4 a5 a6 a7 a8 b1 b2 b3 b4 b5 b6 b7 b8 : List ℕ)
        → a1 ≡ b1 → a2 ≡ b2 → a3 ≡ b3 → a4 ≡ b4 → a5 ≡ b5 → a6 ≡ b6 → a7 ≡ b7 → a8 ≡ b8
        → a1 ++ a2 ++ a3 ++ a4 ++ a5 ++ a6 ++ a7 ++ a8 ≡ b1 ++ b2 ++ b3 ++ b4 ++ b5 ++ b6 ++ b7 ++ b8
    joined a1 a2 a3 a4 a5 a6 a7 a8 b1 b2 b3 b4 b5 b6 b7 b8 e1 e2 e3 e4 e5 e6 e7 e8 = cc

-- the three fields of the first octet
pub first-octet : (o : ℕ) → o < 256 → (o / 64) * 64 + (o / 8 % 8) * 8 + o % 8 ≡ o
first-octet o h = omega arith

-- a list of four, cell by cell
pub four-cells : (xs : List ℕ) → length xs ≡ 4 → get_or xs 0 0 ∷ get_or xs 1 0 ∷ get_or xs 2 0 ∷ get_or xs 3 0 ∷ [] ≡ xs
four-cells xs e = grind (arith, common_steps)

-- the first four octets, as they are read
pub first-fields : (h : HeaderFields) (four : List ℕ) → length four ≡ 4 → get_or four 0 0 < 256
    → h.clock.leap ≡ get_or four 0 0 / 64 → h.version ≡ get_or four 0 0 / 8 % 8 → h.mode ≡ get_or four 0 0 % 8
    → h.clock.stratum ≡ get_or four 1 0 → cast_unsigned w8 h.poll ≡ get_or four 2 0 → cast_unsigned w8 h.clock.precision ≡ get_or four 3 0
    → first_octets h ≡ four
first-fields h four len octet e1 e2 e3 e4 e5 e6 = rw (e1, e2, e3, e4, e5, e6, first-octet (get_or four 0 0) octet) (four-cells four len)

-- an octet that was read as a signed number and handed on
pub handed-on : (z : ℤ) (n : ℕ) → n < 256 → z ≡ cast_signed w8 n → cast_unsigned w8 (cast_signed w8 (cast_unsigned w8 z)) ≡ n
handed-on z n h e = grind (arith, of_z-to_z)
