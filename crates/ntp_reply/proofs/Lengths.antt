-- How many octets requests and replies have.
use Rattle.std.proofs.Common.{◌≡◌, ℕ, ◌+◌, ◌≤◌, List, length, Ok, ap, arith}
use Rattle.ntp_packet.specs.{Tail.TailValue, Tail.MacTail, Tail.tail_octets, Tail.IsTail, Request.RequestValue, Request.IsReading}
use Rattle.ntp_packet.specs.declared.digests.Digest.TheVariants as digest
use Rattle.ntp_packet.proofs.PublicLaws.{length-signed}
use Rattle.ntp_mac.specs.{Key.SymmetricKey, Digest.digest_length, Digest.hash, Signed.IsSigned, declared.key.Algorithm.Algorithm}
use Rattle.ntp_reply.specs.{Kind.mac_number, Verdict.request_length}

-- a request has a header
pub signed-long : (r : RequestValue) → IsReading r → 48 ≤ length r.signed
signed-long r is = omega (arith, ap length is.signed, length-signed r.header r.fields is.header)

-- a MAC has 20 octets at least
pub md5-long : (number : ℕ) (octets : List ℕ) → IsTail (MacTail number (digest.Md5 octets)) → length (tail_octets (MacTail number (digest.Md5 octets))) ≡ 20
unfolding tail_octets
md5-long number octets is = omega (arith, is.1)

pub sha1-long : (number : ℕ) (octets : List ℕ) → IsTail (MacTail number (digest.Sha1 octets)) → length (tail_octets (MacTail number (digest.Sha1 octets))) ≡ 24
unfolding tail_octets
sha1-long number octets is = omega (arith, is.1)

mac-long : (r : RequestValue) (number : ℕ) (tail : TailValue) → IsTail tail → mac_number r tail ≡ Ok number → 20 ≤ length (tail_octets tail)
mac-long r number tail e f = grind (arith, md5-long, sha1-long)

-- so a request with one is as long as a crypto-NAK
pub mac-fits : (number : ℕ) (r : RequestValue) → IsReading r → mac_number r r.tail ≡ Ok number → 52 ≤ request_length r
mac-fits number r is mac = omega (arith, signed-long r is, mac-long r number r.tail is.tail mac)

-- a MAC under an algorithm has four octets more than its digest
signed-tail : (algorithm : Algorithm) (message : List ℕ) (number : ℕ) (tail : TailValue) → IsTail tail
    → tail ≡ MacTail number (hash algorithm message) → length (tail_octets tail) ≡ 4 + digest_length algorithm
signed-tail algorithm message number tail e f = grind (arith, md5-long, sha1-long)

-- a request that is signed is as long as a reply under the same key
pub signed-fits : (key : SymmetricKey) (number : ℕ) (r : RequestValue) → IsReading r → IsSigned key number r
    → 52 + digest_length key.algorithm ≤ request_length r
unfolding IsSigned
signed-fits key number r is signed = grind (arith, signed-long, signed-tail)
