-- What the answer to a signed query is, and what it leaves.
use Rattle.std.proofs.Common.{◌≡◌, ℕ, Bool, true, ◌==◌, nat_lt, ◌<◌, lt-ltb, List, refl, arith}
use Rattle.std.specs.Prelude.{if◌then◌else◌}
use Rattle.ntp_packet.specs.{declared.stamp.Stamp.Stamp, Header.HeaderFields}
use Rattle.ntp_mac.specs.Key.{SymmetricKey}
use Rattle.ntp_customer.specs.{Customer.budget_of, Past.Past, Past.with_query}
use Rattle.ntp_reply.specs.{declared.occasion.Occasion.Occasion, declared.kiss.Kiss.TheVariants.Rate, Life.recent_of, Kind.Signed}
use Rattle.ntp_reply.specs.{declared.answers.Answer.Answer, declared.answers.SignedReply.SignedReply, Replies.time_fields}
use Rattle.ntp_reply.specs.{Replies.kiss_fields, Replies.sealed, Exchanged.matched, Exchanged.stamps_of, Exchanged.after_time}
use Rattle.ntp_reply.specs.Verdict.{kind_answer, after_kind, query_count, window_at, timed}
use Rattle.ntp_reply.specs.declared.answers.Answer.TheVariants as answer
use Rattle.ntp_reply.specs.declared.answers.Reason.TheVariants as reason

-- the answer to a signed query, by whether the budget has room and by whether it was just spent
abbrev by_budget : Bool → Bool → SignedReply → Stamp → SignedReply → Answer
by_budget within last time receive rate =
    if within then answer.Time time receive else if last then answer.Rate rate else answer.Silent reason.OverBudget

only-time : (within last : Bool) (time rate reply : SignedReply) (receive saved : Stamp)
    → by_budget within last time receive rate ≡ answer.Time reply saved → (within ≡ true) × (reply.octets ≡ time.octets) × (saved ≡ receive)
only-time within last time rate reply receive saved e = grind arith

only-rate : (within last : Bool) (time rate reply : SignedReply) (receive : Stamp)
    → by_budget within last time receive rate ≡ answer.Rate reply → reply.octets ≡ rate.octets
only-rate within last time rate reply receive e = grind arith

module _ (past : Past) (o : Occasion) (key : SymmetricKey) (number : ℕ) (h : HeaderFields) where
  abbrev within : Bool
  within = nat_lt (query_count past o) (budget_of past)

  abbrev last : Bool
  last = query_count past o == budget_of past

  abbrev time : List ℕ
  time = sealed key number (time_fields o h (matched (recent_of past) h) (stamps_of past o))

  -- the time is in its octets, with the new receive stamp beside them
  pub told-time : (reply : SignedReply) (saved : Stamp) → kind_answer past o (Signed key number h) ≡ answer.Time reply saved
      → (reply.octets ≡ time) × (saved ≡ (stamps_of past o).receive)
  told-time reply saved is = grind (arith, only-time)

  -- and leaves the past after one
  pub after-told_time : (reply : SignedReply) (saved : Stamp) → kind_answer past o (Signed key number h) ≡ answer.Time reply saved
      → after_kind past o (Signed key number h) ≡ after_time (with_query past (window_at o)) o h
  after-told_time reply saved is = grind (arith, only-time)

  -- a RATE is in its octets
  pub told-rate : (reply : SignedReply) → kind_answer past o (Signed key number h) ≡ answer.Rate reply
      → reply.octets ≡ sealed key number (kiss_fields Rate h)
  told-rate reply is = grind (arith, only-rate)

  -- while the budget has room, the answer is the time
  pub is-timed : query_count past o < budget_of past → kind_answer past o (Signed key number h) ≡ timed key number o h (recent_of past)
  is-timed room = rw (lt-ltb (query_count past o) (budget_of past) room) refl
