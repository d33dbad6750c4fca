-- How many octets the reply of an answer has.
use Rattle.std.proofs.Common.{◌≡◌, ℕ, zero, suc, ◌+◌, ◌*◌, ◌≤◌, Bool, true, List, [], ◌∷◌, length, length-append, Option, Result, Ok, Err, refl, arith}
use Rattle.std.proofs.lemmas.Grind.{common_steps}
use Rattle.std.specs.{Prelude.if◌then◌else◌, Prelude.ok_or, Prelude.slice_index, Int.w32, Int.to_be_bytes}
use Rattle.md5.proofs.StandardFacts.{length-md5}
use Rattle.sha1.specs.Sha1.{sha1, digest_bytes as sha1_octets}
use Rattle.ntp_packet.specs.{Header.HeaderFields, Header.header_octets, Tail.TailValue, Tail.digest_octets}
use Rattle.ntp_packet.specs.{declared.malformed.Malformed.Malformed, FirstCase.◌>>=◌, FirstCase.◌>>◌, FirstCase.provided}
use Rattle.ntp_packet.specs.{FirstCase.decided, Request.RequestValue, Request.IsReading, Request.IsRequest}
use Rattle.ntp_packet.proofs.PublicLaws.{four-cells}
use Rattle.ntp_customer.specs.{declared.slot.Slot.Slot, Customer.Enrolment, Past.Past}
use Rattle.ntp_mac.specs.{Key.SymmetricKey, Digest.digest_length, Digest.hash, Mac.mac_of, Reading.reading_of}
use Rattle.ntp_mac.specs.declared.key.Algorithm.{Algorithm}
use Rattle.ntp_mac.proofs.PublicLaws.{is-signed}
use Rattle.ntp_reply.specs.{declared.occasion.Occasion.Occasion, declared.occasion.NewStamps.NewStamps}
use Rattle.ntp_reply.specs.{Replies.time_fields, Replies.sealed, Life.Life, declared.answers.Answer.Answer}
use Rattle.ntp_reply.specs.Kind.{Kind, PassedOver, RefusedByDeny, RefusedByNak, Signed, mac_number, octets_kind}
use Rattle.ntp_reply.specs.Verdict.{kind_answer, verdict, reply_length, request_length, most_octets}
use Rattle.ntp_reply.proofs.Lengths.{signed-long, mac-fits, signed-fits}

-- ---- parts of replies

-- a digest of SHA-1 has 20 octets
length-sha1_octets : (h : List ℕ) (n : ℕ) → length (sha1_octets h n) ≡ n * 4
unfolding sha1_octets
length-sha1_octets h zero = refl
length-sha1_octets h (suc n) =
    omega (arith, length-sha1_octets h n, length-append (sha1_octets h n) (to_be_bytes w32 (slice_index h n)))

pub length-sha1 : (message : List ℕ) → length (sha1 message) ≡ 20
unfolding sha1
length-sha1 message = length-sha1_octets _ 5

length-hash : (algorithm : Algorithm) (message : List ℕ) → length (digest_octets (hash algorithm message)) ≡ digest_length algorithm
length-hash algorithm message = grind (arith, length-md5, length-sha1)

length-mac : (key : SymmetricKey) (number : ℕ) (octets : List ℕ) → length (mac_of key number octets) ≡ 4 + digest_length key.algorithm
unfolding mac_of
length-mac key number octets = grind (arith, length-append, length-hash)

length-header : (h : HeaderFields) → length h.clock.reference_id ≡ 4 → length (header_octets h) ≡ 48
unfolding header_octets
length-header h id = grind (arith, common_steps, four-cells)

length-sealed : (key : SymmetricKey) (number : ℕ) (h : HeaderFields) → length h.clock.reference_id ≡ 4
    → length (sealed key number h) ≡ 52 + digest_length key.algorithm
length-sealed key number h id = grind (arith, length-append, length-header, length-mac)

most-sealed : (algorithm : Algorithm) → 52 + digest_length algorithm ≤ 72
most-sealed algorithm = grind arith

-- ---- answers

-- what holds of two answers holds of either
either : (P : Answer → Type 0) (b : Bool) (one other : Answer) → P one → P other → P (if b then one else other)
either P b one other e f = grind arith

-- how many octets the reply to a datagram of a kind has at most
abbrev most_of : Kind → ℕ
most_of (PassedOver why) = 0
most_of (RefusedByDeny request) = 48
most_of (RefusedByNak request) = 52
most_of (Signed key number request) = 52 + digest_length key.algorithm

-- a reply has at most the octets of its answer, and `most`
abbrev IsWithin : ℕ → Answer → Type 0
IsWithin most a = (reply_length a ≤ most_octets a) × (reply_length a ≤ most)

module _ (past : Past) (o : Occasion) (id : length o.reference.reference_id ≡ 4) where
  shown : (b : Bool) → length (if b then 0 ∷ 0 ∷ 0 ∷ 0 ∷ [] else o.reference.reference_id) ≡ 4
  shown b = grind arith

  length-time : (request : HeaderFields) (found : Option Slot) (stamps : NewStamps) → length (time_fields o request found stamps).clock.reference_id ≡ 4
  length-time request found stamps = grind (arith, shown)

  pub within : (kind : Kind) → IsWithin (most_of kind) (kind_answer past o kind)
  within kind = grind (arith, length-header, either, length-append, shown, length-sealed, length-time, most-sealed)

-- ---- what fits in a datagram

module _ (most : ℕ) where
  abbrev Fits : Kind → Type 0
  Fits kind = most_of kind ≤ most

  -- a step that fits at either end
  step : {X : Type 0} (first : Result X Kind) (rest : X → Result Kind Kind) → ((why : Kind) → first ≡ Err why → Fits why)
      → ((x : X) → first ≡ Ok x → Fits (decided (rest x))) → Fits (decided (first >>= rest))
  step first rest e f = grind arith

  tested : (b : Bool) (why : Kind) (rest : Result Kind Kind) → Fits why → (b ≡ true → Fits (decided rest))
      → Fits (decided (provided b why >> rest))
  tested b why rest e f = grind arith

  found : {X : Type 0} (x : Option X) (otherwise why : Kind) → Fits otherwise → ok_or x otherwise ≡ Err why → Fits why
  found x otherwise why e f = grind arith

mac-refused : (r : RequestValue) (tail : TailValue) (why : Kind) → 48 ≤ request_length r → mac_number r tail ≡ Err why
    → most_of why ≤ request_length r
mac-refused r tail why e f = grind arith

-- a request is as long as the reply to it
kind-fits : (enrolment : Option Enrolment) (r : RequestValue) → IsReading r → most_of (octets_kind enrolment (Ok r)) ≤ request_length r
kind-fits enrolment r is = grind (arith, signed-long, tested, step, found, mac-refused, mac-fits, signed-fits, is-signed)

reading-fits : (enrolment : Option Enrolment) (octets : List ℕ) (read : Result RequestValue Malformed)
    → ((r : RequestValue) → read ≡ Ok r → IsRequest octets r) → most_of (octets_kind enrolment read) ≤ length octets
reading-fits enrolment octets read e = grind (arith, length-append, kind-fits)

-- ---- replies to datagrams

pub fits-datagram : (life : Life) (o : Occasion) (octets : List ℕ) → ((r : RequestValue) → reading_of octets ≡ Ok r → IsRequest octets r)
    → length o.reference.reference_id ≡ 4 → reply_length (verdict life o octets) ≤ length octets
fits-datagram life o octets e f = grind (arith, within, reading-fits)

pub fits-answer : (life : Life) (o : Occasion) (octets : List ℕ) → length o.reference.reference_id ≡ 4
    → reply_length (verdict life o octets) ≤ most_octets (verdict life o octets)
fits-answer life o octets e = grind (arith, within)
