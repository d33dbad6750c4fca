-- What one event takes of the replies that an address has left in a window.
use Rattle.std.proofs.Common.{◌≡◌, ◌≢◌, ℕ, suc, ◌+◌, ◌-◌, ◌≤◌, cond, Bool, true, false, is_some, List, [], ◌∷◌, ◌++◌, Some, None, Option, option_map, Result, Ok, refl, sym, ap, ◌∙◌, true≢false, arith}
use Rattle.std.specs.Option.{option_map_or}
use Rattle.std.proofs.{lemmas.Bool.eq-eqb, lemmas.Bool.Decides.nat_tests, lemmas.Option.none-some}
use Rattle.ntp_customer.specs.{Tally.count_in, Past.Past, Past.with_refusal}
use Rattle.ntp_customer.proofs.PublicLaws.{count_in-append, by_past}
use Rattle.ntp_packet.specs.{Header.HeaderFields, Header.header_octets, Request.RequestValue}
use Rattle.ntp_packet.specs.declared.malformed.Malformed.{Malformed}
use Rattle.ntp_mac.specs.{Mac.nak_octets, Key.SymmetricKey, Reading.reading_of}
use Rattle.ntp_customer.specs.Customer.{Enrolment, AccountOf, enrolment_at, is_enrolled}
use Rattle.ntp_reply.specs.{Life.Life, Life.enrolment_in, Replies.basic_fields, Replies.kiss_fields}
use Rattle.ntp_reply.specs.{declared.kiss.Kiss.TheVariants.Deny, Exchanged.stamps_of}
use Rattle.ntp_reply.specs.{declared.answers.Answer.Answer, declared.occasion.Occasion.Occasion}
use Rattle.ntp_reply.specs.Kind.{Kind, PassedOver, RefusedByDeny, RefusedByNak, Signed, octets_kind, kind_of}
use Rattle.ntp_reply.specs.Verdict.{window_at, refused, refusals_sent, signed_answer, after_signed, kind_answer, after_kind, verdict, after_datagram}
use Rattle.ntp_reply.specs.declared.answers.Answer.TheVariants as answer
use Rattle.ntp_service.specs.{declared.event.Event.Event, declared.outcome.Outcome.Outcome, Model.answer_to, Model.after}
use Rattle.ntp_service.specs.Forgery.{is_signed_query}
use Rattle.ntp_service.specs.declared.outcome.Outcome.TheVariants as outcome
use Rattle.ntp_service.specs.Bound.{is_query_reply, is_refusal_reply, receipt_window, most_query_replies}
use Rattle.ntp_service.proofs.Lives.{by_life, undone}

-- how many replies of each sort a life has left in a window
abbrev queries_of_account : ℕ → AccountOf (List ℕ) → ℕ
queries_of_account w a = suc a.enrolment.budget - count_in a.queries w

abbrev pub queries_left : Life → ℕ → ℕ
queries_left life w = option_map_or (λ past. option_map_or (queries_of_account w) past.account 0) life 0

abbrev pub refusals_left : Life → ℕ → ℕ
refusals_left life w = refusals_sent - option_map_or (λ past. count_in past.refusals w) life 0

abbrev pub one_if : Bool → ℕ
one_if b = cond b 1 0

-- an answer takes one of those that are left, if it is of that sort
pub record Spends (life next : Life) (w : ℕ) (o : Outcome) : Type 0 where
  pub queries : one_if (is_query_reply o) + queries_left next w ≤ queries_left life w
  pub refusals : one_if (is_refusal_reply o) + refusals_left next w ≤ refusals_left life w

-- one more in the window
one-more : (windows : List ℕ) (w : ℕ) → count_in (windows ++ w ∷ []) w ≡ 1 + count_in windows w
one-more windows w = count_in-append windows w w ∙ ap (λ b. cond b (1 + count_in windows w) 0) (eq-eqb w w refl)

-- ---- a refusal, which is sent or muted
spends-refusal : (past : Past) (o : Occasion) (reply : Answer) → is_query_reply (outcome.Datagram reply) ≡ false
    → is_refusal_reply (outcome.Datagram reply) ≡ true
    → Spends (Some past) (Some (with_refusal past (window_at o))) (window_at o) (outcome.Datagram (refused past o reply))
spends-refusal past o reply no_query refusal = grind (arith, nat_tests, one-more)

-- ---- a signed query of an enrolled address
module _ (a : AccountOf (List ℕ)) (refusals : List ℕ) (o : Occasion) (key : SymmetricKey) (number : ℕ) (request : HeaderFields) where
  abbrev before : Past
  before = record { account = Some a; refusals = refusals }

  spends-signed : Spends (Some before) (Some (after_signed before o request)) (window_at o)
      (outcome.Datagram (signed_answer before o key number request))
  spends-signed = record {
    queries = grind (arith, nat_tests, one-more a.queries (window_at o));
    refusals = grind arith;
  }

-- ---- one datagram
spends-kind : (past : Past) (o : Occasion) (k : Kind) → (is_signed_query k ≡ true → is_enrolled past ≡ true)
    → Spends (Some past) (Some (after_kind past o k)) (window_at o) (outcome.Datagram (kind_answer past o k))
spends-kind past o (PassedOver why) signed = record { queries = omega arith; refusals = omega arith }
spends-kind past o (RefusedByDeny h) signed = spends-refusal past o (answer.Deny (header_octets (kiss_fields Deny h))) refl refl
spends-kind past o (RefusedByNak h) signed =
    spends-refusal past o (answer.Nak (header_octets (basic_fields o h (stamps_of past o)) ++ nak_octets)) refl refl
spends-kind past o (Signed key number h) signed =
    by_past (λ p. is_enrolled p ≡ true → Spends (Some p) (Some (after_signed p o h)) (window_at o)
    (outcome.Datagram (signed_answer p o key number h)))
    (λ refusals out. absurd (true≢false (sym out)))
    (λ a refusals in_it. spends-signed a refusals o key number h)
    past (signed refl)

-- who is not enrolled has no signed query
unsigned : (r : RequestValue) → is_signed_query (octets_kind None (Ok r)) ≡ false
unsigned r = grind arith

signed-enrolled : (e : Option Enrolment) (read : Result RequestValue Malformed) → is_signed_query (octets_kind e read) ≡ true
    → is_some e ≡ true
signed-enrolled e read f = grind (arith, unsigned)

pub spends-datagram : (life : Life) (o : Occasion) (octets : List ℕ)
    → Spends life (after_datagram life o octets) (window_at o) (outcome.Datagram (verdict life o octets))
spends-datagram None o octets = record { queries = omega arith; refusals = omega arith }
spends-datagram (Some past) o octets =
    spends-kind past o (kind_of past octets) (signed-enrolled (enrolment_at past) (reading_of octets))

-- ---- the enrolment after a datagram
enrolment-kind : (o : Occasion) (k : Kind) (past : Past) → enrolment_at (after_kind past o k) ≡ enrolment_at past
enrolment-kind o k = grind (arith, by_past)

pub same-enrolment : (life : Life) (o : Occasion) (octets : List ℕ) → enrolment_in (after_datagram life o octets) ≡ enrolment_in life
same-enrolment life o octets = grind (arith, enrolment-kind)

pub same-most : (life : Life) (o : Occasion) (octets : List ℕ) → most_query_replies (after_datagram life o octets) ≡ most_query_replies life
same-most life o octets = ap (λ found. option_map_or (λ e. e.budget + 1) found 0) (same-enrolment life o octets)

-- ---- an event that is no datagram, and no command that is done, takes nothing
abbrev pub counts : ℕ → Life → ℕ × ℕ × ℕ
counts w life = (queries_left life w, refusals_left life w, most_query_replies life)

pub same-counts : {A : Type 0} (w : ℕ) (life : Life) (e : Event A) → receipt_window e ≡ None → answer_to life e ≢ outcome.Done
    → counts w (after life e) ≡ counts w life
same-counts w life e none plain = grind (arith, none-some, by_life, option_map, undone)

-- ---- what is left is no more than what a window can have
pub left-at-most : (w : ℕ) (life : Life) → queries_left life w ≤ most_query_replies life
left-at-most w = by_life _ (omega arith) (λ refusals. omega arith) (λ a refusals. omega arith)
