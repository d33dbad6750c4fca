-- The recent exchanges of a past stay as they are saved: apart.
use Rattle.std.proofs.Common.{◌≡◌, Bool, true, false, List, [], ◌∷◌, ◌++◌, Option, None, IfSome, Contains, sym, subst, arith}
use Rattle.std.proofs.lemmas.Grind.{common_steps}
use Rattle.std.specs.Prelude.{if◌then◌else◌, is_some, nat_lt, ◌==◌}
use Rattle.ntp_packet.specs.{declared.stamp.Stamp.Stamp, declared.moment.Moment.Moment, Header.HeaderFields}
use Rattle.ntp_customer.specs.{declared.slot.Slot.Slot, Customer.budget_of, Past.Past, Past.with_query}
use Rattle.ntp_customer.specs.Exchanges.{AreSaved, recent, new_exchange, unused_at, spent}
use Rattle.ntp_customer.proofs.PublicLaws.{find-member, receives-spent, all_stamps-spent, recent-departed, AreSaved-nil, AreSaved-push, AreSaved-spent, AreSaved-departed, by_past}
use Rattle.ntp_reply.specs.{declared.occasion.Occasion.Occasion, Replies.new_stamps, Life.recent_of}
use Rattle.ntp_reply.proofs.DistinctStamps.{receive-free, transmit-free}
use Rattle.ntp_reply.specs.Exchanged.{matched, with_match_used, after_time, after_departure}
use Rattle.ntp_reply.specs.Kind.{Kind, PassedOver, RefusedByDeny, RefusedByNak, Signed}
use Rattle.ntp_reply.specs.Verdict.{after_kind, query_count, window_at}
use Rattle.ntp_reply.proofs.KeptExchanges.{recent-nil, recent-with_query, recent-time}

-- none is apart
pub AreSaved-none : AreSaved (recent [])
AreSaved-none = subst AreSaved (sym recent-nil) AreSaved-nil

-- the exchange that a request asks about is saved
pub matched-saved : (saved : List Slot) (request : HeaderFields) → IfSome (matched saved request) (Contains saved)
matched-saved saved request = by_stamps (request.receive.0 == request.transmit.0)
  where
    found : (o : Option Slot) → unused_at saved request.origin ≡ o → IfSome o (Contains saved)
    found o e = grind (arith, find-member)

    by_stamps : (b : Bool) → IfSome (if b then None else unused_at saved request.origin) (Contains saved)
    by_stamps b = grind (arith, found)

-- where one is marked used, they stay apart, and a new one may stand behind them
used-then-new : (saved : List Slot) (request : HeaderFields) (o : Occasion) → AreSaved saved
    → AreSaved (recent (with_match_used saved request ++ new_exchange (new_stamps o saved).receive (new_stamps o saved).transmit ∷ []))
used-then-new saved request o are = by_match (is_some (matched saved request))
  where
    new : List Slot
    new = new_exchange (new_stamps o saved).receive (new_stamps o saved).transmit ∷ []

    by_match : (b : Bool) → AreSaved (recent ((if b then spent saved request.origin else saved) ++ new))
    by_match b = grind (arith, common_steps, AreSaved-push, AreSaved-spent, all_stamps-spent, receive-free, receives-spent, transmit-free)

-- after a time reply, and after a departure
AreSaved-after_time : (past : Past) (o : Occasion) (request : HeaderFields) → AreSaved (recent_of past)
    → AreSaved (recent_of (after_time past o request))
AreSaved-after_time past o request =
    by_past (λ past. AreSaved (recent_of past) → AreSaved (recent_of (after_time past o request)))
    (λ refusals are. are)
    (λ a refusals are. subst AreSaved (recent-time a.exchanges request _) (used-then-new (recent a.exchanges) request o are))
    past

pub AreSaved-after_departure : (past : Past) (receive : Stamp) (m : Moment) → AreSaved (recent_of past)
    → AreSaved (recent_of (after_departure past receive m))
AreSaved-after_departure past receive m = grind (arith, common_steps, by_past, recent-departed, AreSaved-departed)

-- after a datagram
pub AreSaved-after_kind : (past : Past) (o : Occasion) (k : Kind) → AreSaved (recent_of past) → AreSaved (recent_of (after_kind past o k))
AreSaved-after_kind past o (PassedOver why) are = are
AreSaved-after_kind past o (RefusedByDeny h) are = are
AreSaved-after_kind past o (RefusedByNak h) are = are
AreSaved-after_kind past o (Signed key number h) are = by_budget (nat_lt (query_count past o) (budget_of past))
  where
    counted : AreSaved (recent_of (with_query past (window_at o)))
    counted = subst AreSaved (recent-with_query past (window_at o)) are

    by_budget : (b : Bool)
        → AreSaved (recent_of (if b then after_time (with_query past (window_at o)) o h else with_query past (window_at o)))
    by_budget true = AreSaved-after_time (with_query past (window_at o)) o h counted
    by_budget false = counted
