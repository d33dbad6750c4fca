-- A header and a tail are read as those.
use Rattle.std.proofs.Common.{◌≡◌, ℕ, ◌^◌, ◌<◌, List, [], ◌++◌, Ok, refl, sym, ap, subst, ◌∙◌, append-nil, arith}
use Rattle.std.proofs.lemmas.List.Elements.{All-append}
use Rattle.ntp_packet.specs.Header.{HeaderFields, IsHeader, header_octets}
use Rattle.ntp_packet.proofs.PublicLaws.{length_header_octets, AreOctets-all, length-tail}
use Rattle.ntp_packet.specs.Tail.{TailValue, NoTail, BareTail, MacTail, tail_octets, IsTail}
use Rattle.ntp_packet.specs.Request.{RequestValue, IsRequest, signed_octets}
use Rattle.ntp_mac.specs.{Key.SymmetricKey, Digest.hash, Digest.digest_of, Mac.mac_of, Mac.nak_octets, Reading.reading_of}
use Rattle.ntp_mac.specs.{Signed.IsSigned, declared.key.Algorithm.Algorithm}
use Rattle.ntp_mac.proofs.PublicLaws.{only-reading_of}
use Rattle.md5.proofs.StandardFacts.{length-md5}
use Rattle.ntp_reply.proofs.PublicLaws.{length-sha1}
use Rattle.labntp_jobs.proofs.Octets.{Octets, Octets-header, Octets-zeros, Octets-mac}

-- a packet of a header and a tail, with no field
abbrev pub packet : HeaderFields → TailValue → RequestValue
packet h tail = record { header = h; fields = []; signed = header_octets h; tail = tail }

-- its octets are that packet
IsRequest-packet : (h : HeaderFields) (tail : TailValue) → IsHeader h → IsTail tail
    → IsRequest (header_octets h ++ tail_octets tail) (packet h tail)
unfolding signed_octets
IsRequest-packet h tail is is-tail = grind (arith, append-nil, length_header_octets, length-tail)

-- and are read as it
read-packet : (h : HeaderFields) (tail : TailValue) → IsHeader h → IsTail tail → Octets (header_octets h ++ tail_octets tail)
    → reading_of (header_octets h ++ tail_octets tail) ≡ Ok (packet h tail)
read-packet h tail is is-tail octets =
    sym (only-reading_of _ (Ok (packet h tail)) (AreOctets-all _ octets) (IsRequest-packet h tail is is-tail))

-- a header alone
pub read-header : (h : HeaderFields) → IsHeader h → reading_of (header_octets h) ≡ Ok (packet h NoTail)
unfolding tail_octets
read-header h is =
    let nil : header_octets h ++ [] ≡ header_octets h = append-nil (header_octets h) in
    ap reading_of (sym nil) ∙ read-packet h NoTail is tt (subst Octets (sym nil) (Octets-header h is))

-- a header and four zeros
pub read-nak : (h : HeaderFields) → IsHeader h → reading_of (header_octets h ++ nak_octets) ≡ Ok (packet h (BareTail 0))
unfolding tail_octets
read-nak h is =
    read-packet h (BareTail 0) is (omega arith) (All-append (λ octet. octet < 256) (header_octets h) _ (Octets-header h is) Octets-zeros)

-- the packet of a header that is sealed under a key with its number
abbrev pub sealed_packet : SymmetricKey → ℕ → HeaderFields → RequestValue
sealed_packet key number h = packet h (MacTail number (digest_of key (header_octets h)))

IsTail-mac : (number : ℕ) (algorithm : Algorithm) (message : List ℕ) → number < 2 ^ 32
    → IsTail (MacTail number (hash algorithm message))
IsTail-mac number algorithm message e = grind (arith, length-md5, length-sha1)

-- it is signed so
pub signed-sealed : (key : SymmetricKey) (number : ℕ) (h : HeaderFields) → IsSigned key number (sealed_packet key number h)
unfolding IsSigned
signed-sealed key number h = refl

-- and its octets are read as it
pub read-sealed : (key : SymmetricKey) (number : ℕ) (h : HeaderFields) → IsHeader h → number < 2 ^ 32
    → reading_of (header_octets h ++ mac_of key number (header_octets h)) ≡ Ok (sealed_packet key number h)
unfolding mac_of tail_octets
read-sealed key number h is fits =
    read-packet h (MacTail number (digest_of key (header_octets h))) is
    (IsTail-mac number key.algorithm (key.octets ++ header_octets h) fits)
    (All-append (λ octet. octet < 256) (header_octets h) _ (Octets-header h is) (Octets-mac key number (header_octets h)))
