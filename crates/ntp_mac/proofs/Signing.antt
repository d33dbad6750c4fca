-- What the comparison of a request's tail with a MAC tells.
use Rattle.std.proofs.Common.{◌≡◌, ℕ, List, Bool, ◌==◌, ◌&&◌, ap, ◌∙◌, refl, nat_eq, eqb-true, eq-eqb, arith, rules}
use Rattle.std.specs.Prelude.{◌↔◌, IsTrue}
use Rattle.std.specs.Cmp.Lexicographic.{pointwise, bytes_decides}
use Rattle.ntp_packet.specs.{Tail.TailValue, Tail.TailValue.MacTail, Request.RequestValue, declared.digests.Digest.Digest}
use Rattle.ntp_mac.specs.{Key.SymmetricKey, Digest.digest_of}
use Rattle.ntp_mac.specs.Signed.{IsSigned, is_mac, is_signed}

both-hold : (a b : Bool) → IsTrue (a && b) → IsTrue a × IsTrue b
both-hold a b e = grind arith

-- a number and octets that pass the comparison, and those that are equal
same-mac : (found number : ℕ) (octets digest : List ℕ) → IsTrue ((found == number) && pointwise nat_eq octets digest)
    → (found ≡ number) × (octets ≡ digest)
same-mac found number octets digest h = search (rules, both-hold, eqb-true)

passes : (found number : ℕ) (octets digest : List ℕ) → found ≡ number → octets ≡ digest
    → IsTrue ((found == number) && pointwise nat_eq octets digest)
passes found number octets digest n d = rw (eq-eqb found number n, (bytes_decides octets digest).1 d) refl

-- a tail passes the comparison exactly where it is the MAC
is-mac : (tail : TailValue) (number : ℕ) (digest : Digest) → IsTrue (is_mac tail number digest) ↔ (tail ≡ MacTail number digest)
is-mac tail number digest = grind (arith, same-mac, passes)

-- a request passes the comparison exactly where it is signed
pub is-signed : (key : SymmetricKey) (number : ℕ) (request : RequestValue)
    → IsTrue (is_signed key number request) ↔ IsSigned key number request
unfolding IsSigned is_signed
is-signed key number request = is-mac request.tail number (digest_of key request.signed)

-- the comparison of the parts of a request
pub test-of-parts : (key : SymmetricKey) (number : ℕ) (parts request : RequestValue) (r : Bool) → parts ≡ request
    → r ≡ is_mac parts.tail number (digest_of key parts.signed) → r ≡ is_signed key number request
unfolding is_signed
test-of-parts key number parts request r same e = e ∙ ap (λ (q : RequestValue). is_mac q.tail number (digest_of key q.signed)) same

-- so a result that is the comparison's is true exactly where the request is signed
pub test-shows-signed : (key : SymmetricKey) (number : ℕ) (request : RequestValue) (r : Bool)
    → r ≡ is_signed key number request → IsTrue r ↔ IsSigned key number request
test-shows-signed key number request r e = grind (arith, is-signed)
