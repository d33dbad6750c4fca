-- A reply and the MAC behind it.
use Rattle.std.proofs.Common.{◌≡◌, ℕ, List, ◌++◌, append_assoc, refl}
use Rattle.std.specs.Int.{w32, to_be_bytes}
use Rattle.ntp_packet.specs.{declared.digests.Digest.Digest, Tail.digest_octets}
use Rattle.ntp_mac.specs.{Key.SymmetricKey, Digest.digest_of, Mac.mac_of}

-- the number is put behind the reply, and the digest of what stood there behind the number
pub seal-parts : (key : SymmetricKey) (number : ℕ) (reply covered numbered digest_part sealed : List ℕ) (digest : Digest)
    → covered ≡ reply → digest ≡ digest_of key covered → numbered ≡ reply ++ to_be_bytes w32 number → digest_part ≡ digest_octets digest
    → sealed ≡ numbered ++ digest_part → sealed ≡ reply ++ mac_of key number reply
unfolding mac_of
seal-parts key number reply covered numbered digest_part sealed digest e1 e2 e3 e4 e5 =
    joined (to_be_bytes w32 number) (digest_octets digest) (digest_octets (digest_of key reply)) (rw (e2, e1) refl) e3 e4
  where
    joined : (n d m : List ℕ) → d ≡ m → numbered ≡ reply ++ n → digest_part ≡ d → sealed ≡ reply ++ (n ++ m)
    joined n d m e e3 e4 = cc (append_assoc reply n m)
