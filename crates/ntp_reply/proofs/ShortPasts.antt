-- Pasts that leave the same.
use Rattle.std.proofs.Common.{◌≡◌, ℕ, ◌<◌, ◌==◌, min, nat_lt, Bool, true, false, List, sym, ap, ◌∙◌, arith}
use Rattle.std.specs.{Prelude.if◌then◌else◌, Option.option_map_or}
use Rattle.std.proofs.lemmas.Bool.Decides.{nat_tests}
use Rattle.ntp_customer.specs.{Tally.tally, Tally.count_in, Tally.most_counted, Customer.enrolment_at, Customer.budget_of}
use Rattle.ntp_customer.specs.{Customer.changing, Past.Past, Past.queries_in, Past.with_refusal, Past.with_query, Past.short}
use Rattle.ntp_customer.proofs.PublicLaws.{tally-tells_all, with_queries, enrolment_at-short, queries_kept, queries-short, short-with_query}
use Rattle.ntp_packet.specs.Header.{HeaderFields}
use Rattle.ntp_mac.specs.Reading.{reading_of}
use Rattle.ntp_reply.specs.{declared.occasion.Occasion.Occasion, Life.recent_of, Exchanged.after_time}
use Rattle.ntp_reply.specs.Kind.{Kind, PassedOver, RefusedByDeny, RefusedByNak, Signed, octets_kind, kind_of}
use Rattle.ntp_reply.specs.Verdict.{kind_answer, after_kind, window_at, query_count, refusals_sent}
use Rattle.ntp_reply.proofs.KeptExchanges.{recent-alike, time-alike}

-- counts that are the same where they are kept fall alike below what is counted
below : (n m b : ℕ) → min n most_counted ≡ min m most_counted → b < most_counted → nat_lt n b ≡ nat_lt m b
below n m b same lt = grind (arith, nat_tests)

equal : (n m b : ℕ) → min n most_counted ≡ min m most_counted → b < most_counted → (n == b) ≡ (m == b)
equal n m b same lt = grind (arith, nat_tests)

-- the same is kept of two pasts after a signed query, which gets the time in both or in neither
signed-alike : (one other : Past) → short one ≡ short other → (o : Occasion) (h : HeaderFields) (b : Bool)
    → short (if b then after_time one o h else one) ≡ short (if b then after_time other o h else other)
signed-alike one other same o h true = time-alike one other same o h
signed-alike one other same o h false = same

module _ (one other : Past) (same : short one ≡ short other) where
  pub enrolment-alike : enrolment_at one ≡ enrolment_at other
  enrolment-alike = sym (enrolment_at-short one) ∙ ap enrolment_at same ∙ enrolment_at-short other

  budgets : budget_of one ≡ budget_of other
  budgets = ap (λ o. option_map_or (λ e. e.budget) o 0) enrolment-alike

  queries : tally (queries_in one) ≡ tally (queries_in other)
  queries = sym (queries-short one) ∙ ap queries_kept same ∙ queries-short other

  refusals : tally one.refusals ≡ tally other.refusals
  refusals = ap (λ c. c.refusals) same

  -- a datagram is of one kind in both
  kind-alike : (octets : List ℕ) → kind_of one octets ≡ kind_of other octets
  kind-alike octets = ap (λ e. octets_kind e (reading_of octets)) enrolment-alike

  -- the same is kept after one refusal more, and after one signed query more
  refusal-alike : (w : ℕ) → short (with_refusal one w) ≡ short (with_refusal other w)
  refusal-alike w =
      λ i. record { account = (same i).account; refusals = (tally-tells_all one.refusals other.refusals w refusals).1 i }

  query-alike : (w : ℕ) → short (with_query one w) ≡ short (with_query other w)
  query-alike w =
      let tallies = (tally-tells_all (queries_in one) (queries_in other) w queries).1 in
      sym (short-with_query one w) ∙ (λ i. changing (λ a. with_queries a (tallies i)) (same i)) ∙ short-with_query other w

  -- counts fall alike below the limit of refusals, and below a budget that is counted up to
  sent : (w : ℕ) → nat_lt (count_in one.refusals w) refusals_sent ≡ nat_lt (count_in other.refusals w) refusals_sent
  sent w = grind (arith, below, refusals, tally-tells_all)

  module _ (few : budget_of one < most_counted) where
    within : (w : ℕ) → nat_lt (count_in (queries_in one) w) (budget_of one) ≡ nat_lt (count_in (queries_in other) w) (budget_of other)
    within w = grind (arith, below, tally-tells_all, queries, budgets)

    last_one : (w : ℕ) → (count_in (queries_in one) w == budget_of one) ≡ (count_in (queries_in other) w == budget_of other)
    last_one w = grind (arith, equal, tally-tells_all, queries, budgets)

    recents : recent_of one ≡ recent_of other
    recents = recent-alike one other same

    -- a datagram of one kind is answered alike
    answered-alike : (o : Occasion) (k : Kind) → kind_answer one o k ≡ kind_answer other o k
    answered-alike o k = grind (arith, sent, recents, within, last_one)

    -- and the same is kept of both pasts afterwards
    kept-alike : (o : Occasion) (k : Kind) → short (after_kind one o k) ≡ short (after_kind other o k)
    kept-alike o (PassedOver why) = same
    kept-alike o (RefusedByDeny h) = refusal-alike (window_at o)
    kept-alike o (RefusedByNak h) = refusal-alike (window_at o)
    kept-alike o (Signed key number h) =
        ap (λ (b : Bool). short (if b then after_time (with_query one (window_at o)) o h else with_query one (window_at o)))
        (within (window_at o))
        ∙ signed-alike (with_query one (window_at o)) (with_query other (window_at o)) (query-alike (window_at o)) o h
        (nat_lt (query_count other o) (budget_of other))

    -- so with a datagram
    pub datagram-alike : (o : Occasion) (octets : List ℕ)
        → (kind_answer one o (kind_of one octets) ≡ kind_answer other o (kind_of other octets))
        × (short (after_kind one o (kind_of one octets)) ≡ short (after_kind other o (kind_of other octets)))
    datagram-alike o octets = (
      ap (kind_answer one o) (kind-alike octets) ∙ answered-alike o (kind_of other octets),
      ap (λ k. short (after_kind one o k)) (kind-alike octets) ∙ kept-alike o (kind_of other octets),
    )
