-- What follows the header and the fields of a packet.
use Rattle.std.specs.Prelude.{◌≡◌, ℕ, ◌^◌, ◌<◌, List, [], ◌++◌, length}
use Rattle.std.specs.Int.{w32, to_be_bytes}
use Rattle.ntp_packet.specs.{declared.digests.Digest.Digest, declared.tail.Tail.Tail}
use Rattle.ntp_packet.specs.declared.digests.Digest.TheVariants as digest
use Rattle.ntp_packet.specs.declared.tail.Tail.TheVariants.{Absent, Bare, Md5, Sha1}

-- the octets of a digest (RFC 1321; FIPS 180-4)
abbrev pub digest_octets : Digest → List ℕ
digest_octets (digest.Md5 octets) = octets
digest_octets (digest.Sha1 octets) = octets

-- a tail: nothing, a key number alone, or a key number and a digest; the code's `Tail` borrows the digest (RFC 5905, 7.3, which calls
-- the number the key identifier; profile)
pub data TailValue : Type 0 where
  NoTail : TailValue
  BareTail : ℕ → TailValue
  MacTail : ℕ → Digest → TailValue

-- how many octets a tail has at most, a key number and a digest of SHA-1: where more are left a field stands (profile)
abbrev pub most_tail_octets : ℕ
most_tail_octets = 24

-- the octets of a tail: the key number, then the digest (RFC 5905, 7.3; with SHA-1: profile)
unfoldable pub tail_octets : TailValue → List ℕ
tail_octets NoTail = []
tail_octets (BareTail number) = to_be_bytes w32 number
tail_octets (MacTail number found) = to_be_bytes w32 number ++ digest_octets found

-- a key number has 32 bits, a digest the octets of its algorithm (RFC 1321; FIPS 180-4)
abbrev pub IsTail : TailValue → Type 0
IsTail NoTail = Unit {0}
IsTail (BareTail number) = number < 2 ^ 32
IsTail (MacTail number (digest.Md5 octets)) = (number < 2 ^ 32) × (length octets ≡ 16)
IsTail (MacTail number (digest.Sha1 octets)) = (number < 2 ^ 32) × (length octets ≡ 20)

-- a tail without where it lies in memory
abbrev pub tail_value : Tail → TailValue
tail_value Absent = NoTail
tail_value (Bare number) = BareTail number
tail_value (Md5 number octets) = MacTail number (digest.Md5 octets.now)
tail_value (Sha1 number octets) = MacTail number (digest.Sha1 octets.now)
