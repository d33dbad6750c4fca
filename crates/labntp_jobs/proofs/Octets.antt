-- What is written is octets.
use Rattle.std.proofs.Common.{ℕ, zero, suc, ◌/◌, ◌%◌, ◌^◌, ◌<◌, List, [], ◌∷◌, ◌++◌, arith}
use Rattle.std.proofs.Math.Facts.{Fits-of_z}
use Rattle.std.specs.Prelude.{All, slice_index}
use Rattle.std.specs.Int.{w32, w64, byte_at, bytes_low_first, bytes_high_first, to_be_bytes, to_le_bytes}
use Rattle.std.proofs.lemmas.List.Elements.{All-nil, All-cons, All-append}
use Rattle.md5.specs.Md5.{md5, digest_bytes as md5_octets}
use Rattle.sha1.specs.Sha1.{sha1, digest_bytes as sha1_octets}
use Rattle.ntp_packet.specs.{Header.HeaderFields, Header.IsHeader, Header.first_octets, Header.header_octets, Tail.digest_octets}
use Rattle.ntp_mac.specs.{Key.SymmetricKey, Digest.hash, Digest.digest_of, Mac.nak_octets, declared.key.Algorithm.Algorithm}

-- each member is an octet
abbrev pub Octets : List ℕ → Type 0
Octets xs = All (λ octet. octet < 256) xs

both : (xs ys : List ℕ) → Octets xs → Octets ys → Octets (xs ++ ys)
both xs ys = All-append (λ octet. octet < 256) xs ys

one : (x : ℕ) (xs : List ℕ) → x < 256 → Octets xs → Octets (x ∷ xs)
one x xs = All-cons (λ octet. octet < 256) x xs

none : Octets []
none = All-nil (λ octet. octet < 256)

Octet-byte : (i n : ℕ) → byte_at i n < 256
Octet-byte zero n = omega arith
Octet-byte (suc i) n = mod-small (n / 256 ^ suc i)
  where
    mod-small : (m : ℕ) → m % 256 < 256
    mod-small m = omega arith

Octets-high : (k n : ℕ) → Octets (bytes_high_first k n)
Octets-high zero n = none
Octets-high (suc k) n = one (byte_at k n) (bytes_high_first k n) (Octet-byte k n) (Octets-high k n)

Octets-low : (i k n : ℕ) → Octets (bytes_low_first i k n)
Octets-low i zero n = none
Octets-low i (suc k) n = one (byte_at i n) (bytes_low_first (suc i) k n) (Octet-byte i n) (Octets-low (suc i) k n)

-- eight lists of octets, one after another
eight : (a b c d e f g h : List ℕ) → Octets a → Octets b → Octets c → Octets d → Octets e → Octets f → Octets g → Octets h
    → Octets (a ++ b ++ c ++ d ++ e ++ f ++ g ++ h)
eight a b c d e f g h p q r s t u v w =
    both (a ++ b ++ c ++ d ++ e ++ f ++ g) h (both (a ++ b ++ c ++ d ++ e ++ f) g (both (a ++ b ++ c ++ d ++ e) f
    (both (a ++ b ++ c ++ d) e (both (a ++ b ++ c) d (both (a ++ b) c (both a b p q) r) s) t) u) v) w

pub four : (a b c d : ℕ) → a < 256 → b < 256 → c < 256 → d < 256 → Octets (a ∷ b ∷ c ∷ d ∷ [])
four a b c d p q r s = one a (b ∷ c ∷ d ∷ []) p (one b (c ∷ d ∷ []) q (one c (d ∷ []) r (one d [] s none)))

Octets-first : (h : HeaderFields) → IsHeader h → Octets (first_octets h)
Octets-first h is = grind (arith, four, Fits-of_z)

-- of a header
pub Octets-header : (h : HeaderFields) → IsHeader h → Octets (header_octets h)
unfolding header_octets
Octets-header h is =
    eight (first_octets h) (to_be_bytes w32 h.clock.root_delay.0) (to_be_bytes w32 h.clock.root_dispersion.0) h.clock.reference_id
    (to_be_bytes w64 h.clock.reference.0) (to_be_bytes w64 h.origin.0) (to_be_bytes w64 h.receive.0) (to_be_bytes w64 h.transmit.0)
    (Octets-first h is) (Octets-high 4 h.clock.root_delay.0) (Octets-high 4 h.clock.root_dispersion.0) is.reference_id.1
    (Octets-high 8 h.clock.reference.0) (Octets-high 8 h.origin.0) (Octets-high 8 h.receive.0) (Octets-high 8 h.transmit.0)

-- of four zeros
pub Octets-zeros : Octets nak_octets
Octets-zeros = four 0 0 0 0 (omega arith) (omega arith) (omega arith) (omega arith)

-- of a digest
Octets-md5_octets : (h : List ℕ) (n : ℕ) → Octets (md5_octets h n)
unfolding md5_octets
Octets-md5_octets h zero = none
Octets-md5_octets h (suc n) =
    both (md5_octets h n) (to_le_bytes w32 (slice_index h n)) (Octets-md5_octets h n) (Octets-low 0 4 (slice_index h n))

Octets-sha1_octets : (h : List ℕ) (n : ℕ) → Octets (sha1_octets h n)
unfolding sha1_octets
Octets-sha1_octets h zero = none
Octets-sha1_octets h (suc n) =
    both (sha1_octets h n) (to_be_bytes w32 (slice_index h n)) (Octets-sha1_octets h n) (Octets-high 4 (slice_index h n))

Octets-hash : (algorithm : Algorithm) (message : List ℕ) → Octets (digest_octets (hash algorithm message))
unfolding md5 sha1
Octets-hash algorithm message = grind (arith, Octets-md5_octets, Octets-sha1_octets)

-- of a key number and a digest
pub Octets-mac : (key : SymmetricKey) (number : ℕ) (message : List ℕ)
    → Octets (to_be_bytes w32 number ++ digest_octets (digest_of key message))
Octets-mac key number message = both (to_be_bytes w32 number) _ (Octets-high 4 number) (Octets-hash key.algorithm (key.octets ++ message))
