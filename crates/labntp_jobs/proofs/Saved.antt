-- The exchange that a time reply leaves at the server.
use Rattle.std.proofs.Common.{◌≡◌, ◌≢◌, ℕ, ◌-◌, ◌≤◌, Some, None, Option, refl, sym, ap, subst, ◌∙◌, arith, List, [], ◌∷◌, ◌++◌, length, take, drop}
use Rattle.std.specs.Prelude.{Contains}
use Rattle.std.proofs.{lemmas.Bool.eq-eqb, lemmas.Option.none-some}
use Rattle.std.proofs.lemmas.List.Elements.{Contains-append_left, Contains-append_right}
use Rattle.std.proofs.lemmas.List.Folds.{find-append}
use Rattle.std.proofs.lemmas.List.{length-append, take-append-drop, drop-append-le}
use Rattle.ntp_packet.specs.{declared.stamp.Stamp.Stamp, Header.HeaderFields}
use Rattle.ntp_packet.proofs.PublicLaws.{fresh-apart}
use Rattle.ntp_customer.specs.{declared.slot.Slot.Slot, Customer.Enrolment, Customer.enrolment_at, Past.Past, Past.with_query}
use Rattle.ntp_customer.specs.Exchanges.{most_slots, recent, new_exchange, receives, transmits, all_stamps, is_unused_at, unused_at}
use Rattle.ntp_customer.proofs.PublicLaws.{receives-spent, Contains-map, by_past}
use Rattle.ntp_reply.specs.{declared.occasion.Occasion.Occasion, Life.recent_of}
use Rattle.ntp_reply.specs.Exchanged.{with_match_used, stamps_of, after_time}
use Rattle.ntp_reply.proofs.PublicLaws.{kept-with_match_used, recent-time}
use Rattle.labntp_jobs.proofs.{Stamps.receive-few, Matches.found-member}

-- no exchange is found by a stamp that no receive stamp is
none-found : (xs : List Slot) (receive : Stamp) → ((x : Slot) → Contains xs x → x.receive ≢ receive) → (o : Option Slot)
    → unused_at xs receive ≡ o → o ≡ None
none-found xs receive apart None found = refl
none-found xs receive apart (Some y) found =
    let at = found-member xs receive y found in absurd (apart y at.0 (ap (λ n. record { 0 = n }) at.1))

-- a new exchange is found behind such ones, and is recent
new-found : (xs : List Slot) (receive transmit : Stamp) → ((x : Slot) → Contains xs x → x.receive ≢ receive)
    → unused_at (recent (xs ++ new_exchange receive transmit ∷ [])) receive ≡ Some (new_exchange receive transmit)
unfolding recent
new-found xs receive transmit apart =
    let new : List Slot = new_exchange receive transmit ∷ [] in
    let n : ℕ = length (xs ++ new) - most_slots in
    let front : List Slot = drop n xs in
    let few : n ≤ length xs = omega (arith, length-append xs new) in
    let absent : unused_at front receive ≡ None = none-found front receive
    (λ x member. apart x (subst (λ ys. Contains ys x) (take-append-drop n xs) (Contains-append_right (take n xs) front x member))) _ refl in
    let here : unused_at new receive ≡ Some (new_exchange receive transmit) = rw (eq-eqb receive.0 receive.0 refl) refl in
    ap (λ ys. unused_at ys receive) (drop-append-le n xs new few) ∙ find-append (is_unused_at receive) front new ∙ rw (absent, here) refl

-- with one marked used, all receive stamps stay
receives-with_match_used : (xs : List Slot) (h : HeaderFields) → receives (with_match_used xs h) ≡ receives xs
receives-with_match_used xs h = kept-with_match_used receives xs h (receives-spent xs h.origin)

-- the new receive stamp is none of them
new-apart : (past : Past) (o : Occasion) (h : HeaderFields) (x : Slot) → Contains (with_match_used (recent_of past) h) x
    → x.receive ≢ (stamps_of past o).receive
new-apart past o h x member =
    let saved : List Slot = recent_of past in
    let among : Contains (receives saved) x.receive =
    subst (λ stamps. Contains stamps x.receive) (receives-with_match_used saved h)
    (Contains-map (λ (y : Slot). y.receive) (with_match_used saved h) x member) in
    fresh-apart o.receipt.stamp (all_stamps saved) (receive-few past o) x.receive
    (Contains-append_left (receives saved) (transmits saved) _ among)

-- after a time reply of an enrolled address its exchange is found
pub time-found : (e : Enrolment) (o : Occasion) (h : HeaderFields) (w : ℕ) (past : Past) → enrolment_at past ≡ Some e
    → unused_at (recent_of (after_time (with_query past w) o h)) (stamps_of past o).receive
    ≡ Some (new_exchange (stamps_of past o).receive (stamps_of past o).transmit)
time-found e o h w =
    by_past _ (λ refusals there. absurd (none-some e there))
    (λ a refusals there.
    let past : Past = record { account = Some a; refusals = refusals } in
    let stamps = stamps_of past o in
    ap (λ xs. unused_at xs stamps.receive) (sym (recent-time a.exchanges h (new_exchange stamps.receive stamps.transmit ∷ [])))
    ∙ new-found (with_match_used (recent a.exchanges) h) stamps.receive stamps.transmit (new-apart past o h))
