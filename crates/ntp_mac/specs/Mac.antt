-- What may stand behind the header of a reply.
use Rattle.std.specs.Prelude.{ℕ, List, [], ◌∷◌, ◌++◌}
use Rattle.std.specs.Int.{w32, to_be_bytes}
use Rattle.ntp_packet.specs.Tail.{digest_octets}
use Rattle.ntp_mac.specs.{Key.SymmetricKey, Digest.digest_of}

-- how many octets a reply has at most: a header, a key number and a digest of SHA-1 (profile)
abbrev pub most_reply_octets : ℕ
most_reply_octets = 72

-- the MAC of octets: the key number in 32 bits, then the digest under the key (RFC 5905, 7.3)
unfoldable pub mac_of : SymmetricKey → ℕ → List ℕ → List ℕ
mac_of key number octets = to_be_bytes w32 number ++ digest_octets (digest_of key octets)

-- what stands in the place of a MAC in a crypto-NAK: four zeros (RFC 5905)
abbrev pub nak_octets : List ℕ
nak_octets = 0 ∷ 0 ∷ 0 ∷ 0 ∷ []
