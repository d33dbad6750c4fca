-- What the answer to a datagram is that is refused.
use Rattle.std.proofs.Common.{◌≡◌, ℕ, Bool, false, List, ◌++◌, Ok, ap, ◌∙◌, arith}
use Rattle.std.specs.Prelude.{if◌then◌else◌}
use Rattle.ntp_packet.specs.{Header.HeaderFields, Header.header_octets, Request.RequestValue}
use Rattle.ntp_mac.specs.{Mac.nak_octets, Key.SymmetricKey, Reading.reading_of}
use Rattle.ntp_customer.specs.Past.{Past}
use Rattle.ntp_reply.specs.declared.{occasion.Occasion.Occasion, kiss.Kiss.TheVariants.Rate, kiss.Kiss.TheVariants.Deny}
use Rattle.ntp_reply.specs.{Life.Life, Life.recent_of, Exchanged.stamps_of, declared.answers.Answer.Answer, Replies.basic_fields}
use Rattle.ntp_reply.specs.{Replies.kiss_fields, Kind.Kind, Kind.PassedOver, Kind.RefusedByDeny, Kind.RefusedByNak, Kind.Signed}
use Rattle.ntp_reply.specs.Verdict.{kind_answer, verdict, signed_reply, timed}
use Rattle.ntp_reply.specs.declared.answers.Answer.TheVariants as answer
use Rattle.ntp_reply.specs.declared.answers.Reason.TheVariants as reason
use Rattle.labntp_jobs.proofs.Speaks.{SpeaksOf, kind-speaks}

-- neither of two answers is a third
neither : (test : Bool) (one other third : Answer) → (one ≡ third → ⊥) → (other ≡ third → ⊥) → (if test then one else other) ≡ third → ⊥
neither test one other third e f g = grind arith

module _ (past : Past) (o : Occasion) where
  -- a signed query is answered by the time, a RATE or silence
  served : (key : SymmetricKey) (number : ℕ) (h : HeaderFields) (third : Answer) → (timed key number o h (recent_of past) ≡ third → ⊥)
      → (answer.Rate (signed_reply key number false (kiss_fields Rate h)) ≡ third → ⊥) → (answer.Silent reason.OverBudget ≡ third → ⊥)
      → kind_answer past o (Signed key number h) ≡ third → ⊥
  served key number h third a b c is = grind (arith, neither)

  -- the octets of a crypto-NAK to a header
  abbrev nak : HeaderFields → List ℕ
  nak h = header_octets (basic_fields o h (stamps_of past o)) ++ nak_octets

  -- a crypto-NAK goes to the header that the kind speaks of
  pub told-nak : (h : HeaderFields) (k : Kind) (reply : List ℕ) → SpeaksOf h k → kind_answer past o k ≡ answer.Nak reply → reply ≡ nak h
  told-nak h (PassedOver why) reply speaks is = absurd (cc)
  told-nak h (RefusedByDeny other) reply speaks is =
      absurd (neither _ (answer.Deny (header_octets (kiss_fields Deny other))) (answer.Silent reason.Muted) (answer.Nak reply)
      (λ e. absurd (cc)) (λ e. absurd (cc)) is)
  told-nak h (RefusedByNak other) reply speaks is = sent _ is ∙ ap nak speaks
    where
      sent : (test : Bool) → (if test then answer.Nak (nak other) else answer.Silent reason.Muted) ≡ answer.Nak reply → reply ≡ nak other
      sent test e = grind arith
  told-nak h (Signed key number other) reply speaks is =
      absurd (served key number other (answer.Nak reply) (λ e. absurd (cc)) (λ e. absurd (cc)) (λ e. absurd (cc)) is)

  -- and so does a DENY
  told-deny : (h : HeaderFields) (k : Kind) (reply : List ℕ) → SpeaksOf h k → kind_answer past o k ≡ answer.Deny reply
      → reply ≡ header_octets (kiss_fields Deny h)
  told-deny h (PassedOver why) reply speaks is = absurd (cc)
  told-deny h (RefusedByDeny other) reply speaks is = sent _ is ∙ ap (λ x. header_octets (kiss_fields Deny x)) speaks
    where
      sent : (test : Bool) → (if test then answer.Deny (header_octets (kiss_fields Deny other)) else answer.Silent reason.Muted) ≡ answer.Deny reply
          → reply ≡ header_octets (kiss_fields Deny other)
      sent test e = grind arith
  told-deny h (RefusedByNak other) reply speaks is =
      absurd (neither _ (answer.Nak (nak other)) (answer.Silent reason.Muted) (answer.Deny reply)
      (λ e. absurd (cc)) (λ e. absurd (cc)) is)
  told-deny h (Signed key number other) reply speaks is =
      absurd (served key number other (answer.Deny reply) (λ e. absurd (cc)) (λ e. absurd (cc)) (λ e. absurd (cc)) is)

-- so a DENY to octets goes to the header that they are read with
pub denied : (life : Life) (o : Occasion) (octets : List ℕ) (r : RequestValue) (reply : List ℕ) → reading_of octets ≡ Ok r
    → verdict life o octets ≡ answer.Deny reply → reply ≡ header_octets (kiss_fields Deny r.header)
denied life o octets r reply e f = grind (arith, told-deny, kind-speaks)
