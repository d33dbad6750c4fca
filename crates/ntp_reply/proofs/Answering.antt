-- From what a datagram is to how it is answered.
use Rattle.std.proofs.Common.{◌≡◌, ℕ, ◌==◌, ◌||◌, ◌≤◌, Bool, true, Some, None, IsSome, IfSome, Option, Ok, arith}
use Rattle.std.specs.Prelude.{if◌then◌else◌}
use Rattle.ntp_packet.specs.Request.{RequestValue}
use Rattle.ntp_mac.specs.Signed.{is_signed}
use Rattle.ntp_customer.specs.declared.numbered_key.NumberedKey.{NumberedKey}
use Rattle.ntp_customer.specs.Customer.{CustomerState, Enrolment, held_in}
use Rattle.ntp_reply.specs.{declared.occasion.Occasion.Occasion, Answered.Answers, declared.answers.Answer.Answer}
use Rattle.ntp_reply.specs.Kind.{Kind, RefusedByNak, Signed, mac_number, octets_kind}

-- an answer to one kind is one to the same kind, and no longer than more octets
pub as-kind : (o : Occasion) (kind other : Kind) (most more : ℕ) (old new : CustomerState) (reply : Answer)
    → Answers o kind most old new reply → other ≡ kind → most ≤ more → Answers o other more old new reply
as-kind o kind other most more old new reply a same less = grind arith

-- a packet with a MAC from an enrolled customer: where it has no key with its number it is refused
module _ (r : RequestValue) (number : ℕ) (served : ((r.header.version == 3) || (r.header.version == 4)) ≡ true) (mode : r.header.mode ≡ 3)
    (mac : mac_number r r.tail ≡ Ok number) (x : Option Enrolment) (some : IsSome x) where
  pub unknown-kind : IfSome x (λ e. None ≡ held_in e number) → octets_kind x (Ok r) ≡ RefusedByNak r.header
  unknown-kind held = grind arith

  -- and otherwise the test decides
  pub tested-kind : (k : NumberedKey) (test : Bool) → IfSome x (λ e. Some k ≡ held_in e number) → is_signed k.key k.number r ≡ test
      → octets_kind x (Ok r) ≡ (if test then Signed k.key k.number r.header else RefusedByNak r.header)
  tested-kind k test held is = grind arith
