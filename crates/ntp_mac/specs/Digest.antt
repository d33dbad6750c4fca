-- The digest of octets under a key.
use Rattle.std.specs.Prelude.{ℕ, List, ◌++◌}
use Rattle.md5.specs.Md5.{md5}
use Rattle.sha1.specs.Sha1.{sha1}
use Rattle.ntp_mac.specs.{Key.SymmetricKey, declared.key.Algorithm.Algorithm}
use Rattle.ntp_mac.specs.declared.key.Algorithm.TheVariants as algorithm
use Rattle.ntp_packet.specs.declared.digests.Digest.{Digest}
use Rattle.ntp_packet.specs.declared.digests.Digest.TheVariants.{Md5, Sha1}

-- the hash of a message (MD5: RFC 1321; SHA-1: FIPS 180-4)
abbrev pub hash : Algorithm → List ℕ → Digest
hash algorithm.Md5 message = Md5 (md5 message)
hash algorithm.Sha1 message = Sha1 (sha1 message)

-- the digest of octets under a key: the hash of the key's octets followed by them (RFC 5905, 7.3; with SHA-1: profile)
abbrev pub digest_of : SymmetricKey → List ℕ → Digest
digest_of key octets = hash key.algorithm (key.octets ++ octets)

-- how many octets a digest has (RFC 1321; FIPS 180-4)
abbrev pub digest_length : Algorithm → ℕ
digest_length algorithm.Md5 = 16
digest_length algorithm.Sha1 = 20
