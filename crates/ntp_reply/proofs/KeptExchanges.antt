-- What is kept of the exchanges of a past.
use Rattle.std.proofs.Common.{◌≡◌, ℕ, Bool, false, List, [], ◌∷◌, ◌++◌, length, IsSome, IfSome, is_some, refl, sym, ap, ◌∙◌, arith}
use Rattle.std.specs.Prelude.{if◌then◌else◌}
use Rattle.ntp_packet.specs.{declared.stamp.Stamp.Stamp, declared.moment.Moment.Moment, Header.HeaderFields}
use Rattle.ntp_customer.specs.{Tally.tally, declared.slot.Slot.Slot}
use Rattle.ntp_customer.specs.Exchanges.{recent, with_recent, new_exchange, unused_at, spent, with_departure}
use Rattle.ntp_customer.proofs.PublicLaws.{recent-all, recent-append, recent-with_recent, recent-departed, length-spent, by_customer, revoked-absent, by_past}
use Rattle.ntp_customer.specs.Customer.{Enrolment, CustomerState, customer_from, enrolment_at, is_enrolled, exchanges_of, with_saved}
use Rattle.ntp_customer.specs.Past.{Past, with_query, short}
use Rattle.ntp_reply.specs.{declared.occasion.Occasion.Occasion, declared.occasion.NewStamps.NewStamps, Replies.new_stamps}
use Rattle.ntp_reply.specs.Life.{recent_of}
use Rattle.ntp_reply.specs.Exchanged.{matched, with_match_used, stamps_of, after_time, is_noted, after_departure}

-- with other exchanges in a past, the recent ones of these are kept
kept-changed : (past : Past) (xs : List Slot) → with_saved (short past) (recent xs) ≡ short (with_saved past xs)
kept-changed past xs = grind (arith, by_past)

-- none is recent where there is none
pub recent-nil : recent [] ≡ []
recent-nil = recent-all [] (omega arith)

-- what is kept of a past that begins
pub short-new : (e : Enrolment) → customer_from (tally []) e ≡ short (customer_from [] e)
short-new e = ap (with_saved (customer_from (tally []) e)) (sym recent-nil)

-- of the exchanges the recent ones are kept
saved-recent : (past : Past) → exchanges_of (short past) ≡ recent_of past
saved-recent = by_past _ (λ refusals. sym recent-nil) (λ a refusals. refl)

lent-saved : (c : CustomerState) (xs : List Slot) → IsSome (enrolment_at c) → IfSome c.account (λ a. xs ≡ a.exchanges) → xs ≡ exchanges_of c
lent-saved c xs = grind (arith, by_customer)

-- exchanges that are lent by a customer are the recent ones of its past
pub lent-recent : (past : Past) (c : CustomerState) (xs : List Slot) → short past ≡ c → IsSome (enrolment_at c)
    → IfSome c.account (λ a. xs ≡ a.exchanges) → xs ≡ recent_of past
lent-recent past c xs kept some is = lent-saved c xs some is ∙ ap exchanges_of (sym kept) ∙ saved-recent past

-- counts change no exchange
pub recent-with_query : (past : Past) (w : ℕ) → recent_of past ≡ recent_of (with_query past w)
recent-with_query past w = by_past (λ past. recent_of past ≡ recent_of (with_query past w)) (λ refusals. refl) (λ a refusals. refl) past

-- who is not enrolled has no exchange
pub not-noted : (past : Past) (c : CustomerState) (receive : Stamp) → short past ≡ c → is_enrolled c ≡ false → false ≡ is_noted past receive
not-noted past c receive kept out =
    ap (λ xs. is_some (unused_at xs receive)) (ap exchanges_of (revoked-absent c out ∙ sym kept) ∙ saved-recent past)

-- what using an exchange keeps, marking the match of a request as used keeps too
pub kept-with_match_used : {X : Type 0} (kept : List Slot → X) (xs : List Slot) (request : HeaderFields)
    → kept (spent xs request.origin) ≡ kept xs → kept (with_match_used xs request) ≡ kept xs
kept-with_match_used kept xs request spent-keeps = by_match (is_some (matched xs request))
  where
    by_match : (b : Bool) → kept (if b then spent xs request.origin else xs) ≡ kept xs
    by_match b = grind arith

-- as many exchanges are saved where one is used
length-with_match_used : (xs : List Slot) (request : HeaderFields) → length (with_match_used xs request) ≡ length xs
length-with_match_used xs request = kept-with_match_used (λ slots. length slots) xs request (length-spent xs request.origin)

-- so with a new one behind them, the recent ones of the whole are those of the saved
pub recent-time : (xs : List Slot) (request : HeaderFields) (new : List Slot)
    → recent (with_match_used (recent xs) request ++ new) ≡ recent (with_recent xs (with_match_used (recent xs) request) ++ new)
recent-time xs request new =
    ap (λ ys. recent (ys ++ new))
    (sym (recent-with_recent xs (with_match_used (recent xs) request) (length-with_match_used (recent xs) request)))
    ∙ recent-append (with_recent xs (with_match_used (recent xs) request)) new

-- what is kept after a time reply, by the recent exchanges and what was kept
abbrev exchanged : Occasion → HeaderFields → List Slot → List Slot
exchanged o request xs =
    recent (with_match_used xs request ++ new_exchange (new_stamps o xs).receive (new_stamps o xs).transmit ∷ [])

short-after_time : (past : Past) (o : Occasion) (request : HeaderFields)
    → with_saved (short past) (exchanged o request (recent_of past)) ≡ short (after_time past o request)
short-after_time past o request =
    ap (with_saved (short past))
    (recent-time (exchanges_of past) request (new_exchange (stamps_of past o).receive (stamps_of past o).transmit ∷ []))
    ∙ kept-changed past _

-- and after a departure
short-after_departure : (past : Past) (receive : Stamp) (m : Moment)
    → with_saved (short past) (with_departure (recent_of past) receive m) ≡ short (after_departure past receive m)
short-after_departure past receive m = grind (arith, recent-departed, kept-changed)

-- so where these exchanges were lent
pub kept-after_time : (past : Past) (c : CustomerState) (o : Occasion) (request : HeaderFields) (xs saved : List Slot) (stamps : NewStamps)
    → short past ≡ c → IsSome (enrolment_at c) → IfSome c.account (λ a. xs ≡ a.exchanges) → stamps ≡ new_stamps o xs
    → saved ≡ recent (with_match_used xs request ++ new_exchange stamps.receive stamps.transmit ∷ [])
    → with_saved c saved ≡ short (after_time past o request)
kept-after_time past c o request xs saved stamps kept some lent new is =
    let recents = lent-recent past c xs kept some lent in
    let before : with_saved c saved ≡ with_saved (short past) (exchanged o request (recent_of past)) = rw (is, new, recents, ← kept) refl in
    before ∙ short-after_time past o request

pub kept-after_departure : (past : Past) (c : CustomerState) (receive : Stamp) (m : Moment) (xs saved : List Slot)
    → short past ≡ c → IsSome (enrolment_at c) → IfSome c.account (λ a. xs ≡ a.exchanges) → saved ≡ with_departure xs receive m
    → with_saved c saved ≡ short (after_departure past receive m)
kept-after_departure past c receive m xs saved kept some lent is =
    let recents = lent-recent past c xs kept some lent in
    let before : with_saved c saved ≡ with_saved (short past) (with_departure (recent_of past) receive m) = rw (is, recents, ← kept) refl in
    before ∙ short-after_departure past receive m

-- pasts that leave the same have the same recent exchanges, and leave the same afterwards
module _ (one other : Past) (same : short one ≡ short other) where
  pub recent-alike : recent_of one ≡ recent_of other
  recent-alike = sym (saved-recent one) ∙ ap exchanges_of same ∙ saved-recent other

  pub time-alike : (o : Occasion) (request : HeaderFields) → short (after_time one o request) ≡ short (after_time other o request)
  time-alike o request =
      sym (short-after_time one o request) ∙ (λ i. with_saved (same i) (exchanged o request (recent-alike i)))
      ∙ short-after_time other o request

  pub departure-alike : (receive : Stamp) (m : Moment) → (is_noted one receive ≡ is_noted other receive)
      × (short (after_departure one receive m) ≡ short (after_departure other receive m))
  departure-alike receive m = (
    λ i. is_some (unused_at (recent-alike i) receive),
    sym (short-after_departure one receive m) ∙ (λ i. with_saved (same i) (with_departure (recent-alike i) receive m))
        ∙ short-after_departure other receive m,
  )
