-- Which exchange the server finds for a client's request.
use Rattle.std.proofs.Common.{◌≡◌, ◌≢◌, Bool, ◌==◌, List, Option, Some, None, refl, arith}
use Rattle.std.specs.{Prelude.Contains, Prelude.if◌then◌else◌, Option.option_and_then}
use Rattle.std.proofs.lemmas.Bool.{cases_Bool, ne_eqb, eqb-true, eqb-false, and_parts}
use Rattle.ntp_packet.specs.{declared.stamp.Stamp.Stamp, Header.HeaderFields, Header.no_stamp}
use Rattle.ntp_customer.specs.{declared.slot.Slot.Slot, Exchanges.AreSaved, Exchanges.unused_at}
use Rattle.ntp_customer.proofs.PublicLaws.{find-member, stamps-apart}
use Rattle.ntp_client.specs.{declared.exchange.Exchange.Exchange, declared.exchange.Outstanding.Outstanding, State.IsOutstanding}
use Rattle.ntp_client.specs.Query.{query_fields}
use Rattle.ntp_reply.specs.Exchanged.{matched}

-- an exchange that is found is saved, and has the receive stamp
pub found-member : (saved : List Slot) (receive : Stamp) (y : Slot) → unused_at saved receive ≡ Some y
    → Contains saved y × (y.receive.0 ≡ receive.0)
found-member saved receive y found = grind (arith, find-member, eqb-true, and_parts)

-- no saved exchange has the stamp of unknown time
none-unknown : (saved : List Slot) → AreSaved saved → (o : Option Slot) → unused_at saved no_stamp ≡ o → o ≡ None
none-unknown saved e o f = grind (arith, found-member, stamps-apart)

-- where the request carries an exchange, the server looks for the one with the receive stamp of its reply
carried-match : (q : Outstanding) (saved : List Slot) (e : Exchange) → IsOutstanding q → q.earlier ≡ Some e
    → matched saved (query_fields q) ≡ unused_at saved e.receive
carried-match q saved e is carried = grind (arith, ne_eqb)

-- where the server finds one, the request's receive and transmit stamps differ
pub matched-apart : (saved : List Slot) (h : HeaderFields) (y : Slot) → matched saved h ≡ Some y
    → (h.receive.0 ≢ h.transmit.0) × (unused_at saved h.origin ≡ Some y)
matched-apart saved h y match = tested (h.receive.0 == h.transmit.0) refl match
  where
    tested : (t : Bool) → (h.receive.0 == h.transmit.0) ≡ t → (if t then None else unused_at saved h.origin) ≡ Some y
        → (h.receive.0 ≢ h.transmit.0) × (unused_at saved h.origin ≡ Some y)
    tested t e f = grind (arith, eqb-false)

-- where it carries none, the server finds none
none-matched : (q : Outstanding) (saved : List Slot) → AreSaved saved → q.earlier ≡ None → matched saved (query_fields q) ≡ None
none-matched q saved are carried = grind (arith, cases_Bool, none-unknown)

pub asked-match : (q : Outstanding) (saved : List Slot) → IsOutstanding q → AreSaved saved
    → matched saved (query_fields q) ≡ option_and_then (λ e. unused_at saved e.receive) q.earlier
asked-match q saved is are = carries q.earlier refl
  where
    carries : (o : Option Exchange) → q.earlier ≡ o
        → matched saved (query_fields q) ≡ option_and_then (λ e. unused_at saved e.receive) q.earlier
    carries o e = grind (arith, none-matched, carried-match)
