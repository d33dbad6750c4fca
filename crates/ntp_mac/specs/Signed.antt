-- That a request is signed.
use Rattle.std.specs.Prelude.{◌≡◌, ℕ, Bool, false, ◌&&◌, ◌==◌, nat_eq}
use Rattle.std.specs.Cmp.Lexicographic.{pointwise}
use Rattle.ntp_packet.specs.{Tail.TailValue, Tail.TailValue.MacTail, Request.RequestValue, declared.digests.Digest.Digest}
use Rattle.ntp_packet.specs.declared.digests.Digest.TheVariants.{Md5, Sha1}
use Rattle.ntp_mac.specs.{Key.SymmetricKey, Digest.digest_of}

-- a request is signed under a key with a key number: its tail is of the key's algorithm and has that number, and
-- its digest is the hash of the key's octets followed by the header and the fields (RFC 5905, 7.3; with SHA-1: profile)
unfoldable pub IsSigned : SymmetricKey → ℕ → RequestValue → Type 0
IsSigned key number request = request.tail ≡ MacTail number (digest_of key request.signed)

-- whether a tail has this key number and this whole digest, in the form of its algorithm (RFC 5905, 7.3; with SHA-1: profile)
abbrev pub is_mac : TailValue → ℕ → Digest → Bool
is_mac (MacTail found (Md5 octets)) number (Md5 digest) = (found == number) && pointwise nat_eq octets digest
is_mac (MacTail found (Sha1 octets)) number (Sha1 digest) = (found == number) && pointwise nat_eq octets digest
is_mac _ number digest = false

-- whether a request is signed under a key with a key number (RFC 5905, 7.3; with SHA-1: profile)
unfoldable pub is_signed : SymmetricKey → ℕ → RequestValue → Bool
is_signed key number request = is_mac request.tail number (digest_of key request.signed)
