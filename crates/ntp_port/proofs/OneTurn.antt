-- One turn, by the calls that were made in it.
use Rattle.std.proofs.Common.{◌≡◌, ℕ, ◌+◌, ◌≤◌, Bool, true, false, Option, None, Some, Result, Ok, Err, List, [], ◌∷◌, ◌++◌, length, refl, sym, ap, ◌∙◌, subst, append-nil, arith}
use Rattle.std.specs.Prelude.{nat_le, not, is_err, is_some, option_to_list, map, if◌then◌else◌}
use Rattle.ntp_packet.specs.{declared.moment.Moment.Moment, declared.stamp.Stamp.Stamp}
use Rattle.ntp_mac.specs.Mac.{most_reply_octets}
use Rattle.ntp_service.specs.{declared.address.Address.Address, Registry.Registry, declared.observation.Sending.Sending}
use Rattle.ntp_service.specs.{declared.event.Event.Event, Model.departure_outcome}
use Rattle.ntp_reply.specs.{Verdict.reply_in, declared.answers.Answer.Answer}
use Rattle.ntp_service.specs.declared.observation.Sending.TheVariants.{NoReply, NotSent, Sent as WasSent, Noted, NotNoted}
use Rattle.ntp_service.specs.declared.event.Event.TheVariants as event
use Rattle.ntp_service.specs.Headline.{StandsFor, Tells, TellsOne}
use Rattle.ntp_service.proofs.PublicLaws.{Tells-nil, Tells-one}
use Rattle.ntp_port.specs.{declared.sent.Sent.Sent, declared.port.PortCounts.PortCounts, declared.port.PortFault.PortFault}
use Rattle.ntp_port.specs.{declared.port.PortFault.TheVariants.Send, Serving.FollowsList, Serving.Follows}
use Rattle.ntp_port.specs.Port.{IncomingValue, ReadClock, TriedSend, Readings, behind, TurnValue, Told, counted_send, NowTells, SendTells}
use Rattle.ntp_port.specs.Made.{Made, Received, turn_of, departing, sent_in, sending_of, is_unsent}
use Rattle.ntp_port.specs.Sending.{saved_in, turn_with, HasBegun, IsInTurn, SendingMakes}

-- one turn, at any port
abbrev pub FollowsOne : Made → Option Told → Option Told → Type 0
FollowsOne m t u = Follows (turn_of m ∷ []) (m ∷ []) t u

-- no send failed
pub counted-none : (k : PortCounts) → k ≡ counted_send false k
counted-none k = let none : k.failed_sends ≡ k.failed_sends + 0 = omega arith in ap (λ n. record k { failed_sends = n }) none

-- at a port that tells its turns
pub follows-one : (m : Made) (rest : List TurnValue) (old new : Told) → old.coming ≡ turn_of m ∷ rest → new.coming ≡ rest
    → new.sent ≡ old.sent ++ sent_in m → FollowsList (turn_of m ∷ []) (m ∷ []) old new
follows-one m rest old new here coming sent = grind (arith, coming, append-nil)

-- ---- what becomes of the reply of an answer
undeparting-silence : (sends : Bool) (a : Answer) → reply_in a ≡ None → departing sends a ≡ []
undeparting-silence sends a e = grind arith

undeparting : (a : Answer) → saved_in a ≡ None → departing true a ≡ []
undeparting a e = grind arith

departing-time : (a : Answer) (saved : Stamp) → saved_in a ≡ Some saved → departing true a ≡ saved ∷ []
departing-time a saved e = grind arith

sending-silence : (sends : Bool) (a : Answer) (noted : Bool) → reply_in a ≡ None → NoReply ≡ sending_of a sends noted
sending-silence sends a noted e = grind arith

sending-failed : (a : Answer) (noted : Bool) (reply : List ℕ) → reply_in a ≡ Some reply → NotSent ≡ sending_of a false noted
sending-failed a noted reply e = grind arith

sending-sent : (a : Answer) (noted : Bool) (reply : List ℕ) → reply_in a ≡ Some reply → saved_in a ≡ None → WasSent ≡ sending_of a true noted
sending-sent a noted reply e f = grind arith

sending-time : (a : Answer) (noted : Bool) (saved : Stamp) → saved_in a ≡ Some saved → (if noted then Noted else NotNoted) ≡ sending_of a true noted
sending-time a noted saved e = grind arith

-- what a port tells in a turn, once its clock was read and a reply was tried to be sent
abbrev pub tried_in : List TurnValue → TurnValue → List Sent → Told
tried_in rest turn sent =
    record { coming = rest; present = turn; clock = behind TriedSend (behind ReadClock turn.clock); has_tried_send = true; sent = sent }

-- a reply to where a datagram came from
abbrev pub sent_back : IncomingValue → Option (List ℕ) → List Sent
sent_back d replies = map (λ reply. record { address = d.address; port = d.port; reply = reply }) (option_to_list replies)

-- and where it was sent
abbrev pub if_sent : Bool → List Sent → IncomingValue → List ℕ → List Sent
if_sent good sent from reply = if good then sent ++ sent_back from (Some reply) else sent

-- a datagram and the first reading of the clock
module _ (from : IncomingValue) (transmit : Moment) where
  pub record HasTriedOne (good : Bool) (reply : List ℕ) (old new : Told) (clock : Readings) (rest : List TurnValue) : Type 0 where
    pub first : clock [] ≡ transmit
    pub coming : old.coming ≡ turn_with from clock good ∷ rest
    pub after : new ≡ tried_in rest (turn_with from clock good) (if_sent good old.sent from reply)

  -- a port is in a turn, and tried to send a reply
  abbrev pub HasTried : Bool → List ℕ → Option Told → Option Told → Type 0
  HasTried good reply None w = Unit {0}
  HasTried good reply (Some old) None = ⊥
  HasTried good reply (Some old) (Some new) = (clock : Readings) × (rest : List TurnValue) × HasTriedOne good reply old new clock rest

  tried-one : (reply : List ℕ) (old mid new : Told) (sent : Result (Unit {0}) PortFault) (clock : Readings) (sends : Bool)
      (rest : List TurnValue) → nat_le (length reply) most_reply_octets ≡ true → HasBegun old mid from transmit clock sends rest
      → SendTells (Some mid) (Some new) from.address from.port reply sent → HasTried (not (is_err sent)) reply (Some old) (Some new)
  tried-one reply old mid new sent clock sends rest fits b told =
      by_sends sends b.coming (subst (λ m. SendTells (Some m) (Some new) from.address from.port reply sent) b.after told)
    where
      by_sends : (sends : Bool) → old.coming ≡ turn_with from clock sends ∷ rest
          → SendTells (Some (record {
            coming = rest;
            present = turn_with from clock sends;
            clock = behind ReadClock clock;
            has_tried_send = false;
            sent = old.sent;
          })) (Some new) from.address from.port reply sent → HasTried (not (is_err sent)) reply (Some old) (Some new)
      by_sends false coming p = rw p.0 (clock, rest, record { first = b.first; coming = coming; after = p.1 })
      by_sends true coming p =
          let good : sent ≡ Ok tt = p.0 ∙ ap (λ (z : Bool). if z then Ok tt else Err Send) fits in
          rw good (
            clock,
            rest,
            record {
              first = b.first;
              coming = coming;
              after = p.1 ∙ ap (λ z. tried_in rest (turn_with from clock true) (if_sent z old.sent from reply)) fits;
            },
          )

  pub tried : (reply : List ℕ) (t v w : Option Told) (sent : Result (Unit {0}) PortFault) (address : Address) (port : ℕ)
      → length reply ≤ most_reply_octets → from.address ≡ address → from.port ≡ port
      → IsInTurn t v from transmit → SendTells v w address port reply sent → HasTried (not (is_err sent)) reply t w
  tried reply t v w sent address port e f g h p = grind (arith, tried-one)

  -- the answer to the datagram
  module _ (a : Answer) where
    abbrev pub made_of : Readings → Bool → Bool → Made
    made_of clock sends noted = Received from clock sends a noted

    -- a turn was made, whose clock showed this at first
    abbrev HasMade : Bool → Bool → Option Told → Option Told → Type 0
    HasMade sends noted t u = (clock : Readings) × (clock [] ≡ transmit) × FollowsOne (made_of clock sends noted) t u

    -- what became of its reply
    makes-sending : (A : Type 0) (sends noted : Bool) (t u : Option Told) (k l : PortCounts) (s r : Registry) (sending : Sending)
        (made : HasMade sends noted t u) → sending ≡ sending_of a sends noted → l ≡ counted_send (is_unsent (made_of made.0 sends noted)) k
        → ((history : List (Event A)) → StandsFor s history
        → Tells history (map (λ saved. (event.Departed from.address saved (made.0 (ReadClock ∷ TriedSend ∷ [])), departure_outcome noted)) (departing sends a)) r)
        → SendingMakes A a from transmit t u k l s r sending
    makes-sending A sends noted t u k l s r sending made comes_to count tells = record {
      clock = made.0;
      first = made.1;
      sends = sends;
      noted = noted;
      comes_to = comes_to;
      port = made.2;
      counts = count;
      tells = tells;
    }

    -- ---- there is no reply
    nothing-sent : (clock : Readings) (sends : Bool) → reply_in a ≡ None → sent_in (made_of clock sends false) ≡ []
    nothing-sent clock sends e = grind arith

    follows-silent : (t u : Option Told) → reply_in a ≡ None → IsInTurn t u from transmit → (sends : Bool) × HasMade sends false t u
    follows-silent None u none i = (false, (λ calls. transmit, refl, tt))
    follows-silent (Some old) None none i = absurd i
    follows-silent (Some old) (Some new) none i = (
      i.1,
      (
        i.0,
        i.3.first,
        follows-one (made_of i.0 i.1 false) i.2 old new i.3.coming (ap (λ (z : Told). z.coming) i.3.after)
            (ap (λ (z : Told). z.sent) i.3.after ∙ sym (append-nil old.sent) ∙ ap (λ l. old.sent ++ l) (sym (nothing-sent i.0 i.1 none))),
      ),
    )

    silent-sent : (clock : Readings) (sends : Bool) → reply_in a ≡ None → is_unsent (made_of clock sends false) ≡ false
    silent-sent clock sends e = grind arith

    pub makes-no-reply : (A : Type 0) (t u : Option Told) (k l : PortCounts) (s : Registry) → reply_in a ≡ None → l ≡ k
        → IsInTurn t u from transmit → SendingMakes A a from transmit t u k l s s NoReply
    makes-no-reply A t u k l s none count i =
        let p = follows-silent t u none i in
        makes-sending A p.0 false t u k l s s NoReply p.1 (sending-silence p.0 a false none)
        (count ∙ counted-none k ∙ ap (λ b. counted_send b k) (sym (silent-sent p.1.0 p.0 none)))
        (λ history stands. rw (undeparting-silence p.0 a none) (Tells-nil history s stands))

    -- ---- there is one
    module _ (reply : List ℕ) (is : reply_in a ≡ Some reply) where
      tried-sent : (old : List Sent) (good noted : Bool) (clock : Readings)
          → if_sent good old from reply ≡ old ++ sent_in (made_of clock good noted)
      tried-sent old good noted clock = grind (arith, append-nil)

      follows-tried : (good noted : Bool) (t w : Option Told) → HasTried good reply t w → HasMade good noted t w
      follows-tried good noted None w p = (λ calls. transmit, refl, tt)
      follows-tried good noted (Some old) None p = absurd p
      follows-tried good noted (Some old) (Some new) p = (
        p.0,
        p.2.first,
        follows-one (made_of p.0 good noted) p.1 old new p.2.coming (ap (λ (z : Told). z.coming) p.2.after)
            (ap (λ (z : Told). z.sent) p.2.after ∙ tried-sent old.sent good noted p.0),
      )

      -- readings that show this moment from the second on
      abbrev departing_at : Moment → Readings
      departing_at moment [] = transmit
      departing_at moment (call ∷ calls) = moment

      follows-departed : (noted : Bool) (t w z : Option Told) (moment : Moment) → HasTried true reply t w → NowTells w z moment
          → (made : HasMade true noted t z) × (made.0 (ReadClock ∷ TriedSend ∷ []) ≡ moment)
      follows-departed noted None w z moment p k = ((departing_at moment, refl, tt), refl)
      follows-departed noted (Some old) None z moment p k = absurd p
      follows-departed noted (Some old) (Some mid) None moment p k = absurd k
      follows-departed noted (Some old) (Some mid) (Some new) moment p k =
          let shown : moment ≡ p.0 (ReadClock ∷ TriedSend ∷ []) = k.0 ∙ ap (λ (x : Told). x.clock []) p.2.after in
          let after = k.1 ∙ ap (λ (x : Told). record x { clock = behind ReadClock x.clock }) p.2.after in
          let port = follows-one (made_of p.0 true noted) p.1 old new p.2.coming (ap (λ (x : Told). x.coming) after)
          (ap (λ (x : Told). x.sent) after ∙ tried-sent old.sent true noted p.0) in
          ((p.0, p.2.first, port), sym shown)

      -- a send of it was tried, to where the datagram came from
      module _ (A : Type 0) (t v w : Option Told) (k l : PortCounts) (s : Registry) (sent : Result (Unit {0}) PortFault) (address : Address)
          (port : ℕ) (few : length reply ≤ most_reply_octets) (e : from.address ≡ address) (h : from.port ≡ port) (i : IsInTurn t v from transmit)
          (tells : SendTells v w address port reply sent) (count : l ≡ counted_send (is_err sent) k) where
        -- so the port is in a turn, and tried to send a reply
        has-tried : (failed : Bool) → is_err sent ≡ failed → HasTried (not failed) reply t w
        has-tried failed gave = subst (λ b. HasTried (not b) reply t w) gave (tried reply t v w sent address port few e h i tells)

        pub makes-not-sent : is_err sent ≡ true → SendingMakes A a from transmit t w k l s s NotSent
        makes-not-sent failed = makes-sending A false false t w k l s s NotSent (follows-tried false false t w (has-tried true failed))
            (sending-failed a false reply is) (count ∙ ap (λ b. counted_send b k) (failed ∙ sym (ap is_some is)))
            (λ history stands. Tells-nil history s stands)

        pub makes-sent : is_err sent ≡ false → saved_in a ≡ None → SendingMakes A a from transmit t w k l s s WasSent
        makes-sent good unsaved = makes-sending A true false t w k l s s WasSent (follows-tried true false t w (has-tried false good))
            (sending-sent a false reply is unsaved) (count ∙ ap (λ b. counted_send b k) good)
            (λ history stands. rw (undeparting a unsaved) (Tells-nil history s stands))

        pub makes-departed : (z : Option Told) (m : PortCounts) (r : Registry) (saved : Stamp) (moment : Moment) (told noted : Bool)
            → is_err sent ≡ false → saved_in a ≡ Some saved → m ≡ l → NowTells w z moment → told ≡ noted
            → ((history : List (Event A)) → StandsFor s history
            → TellsOne history (event.Departed address saved moment) (departure_outcome told) r)
            → SendingMakes A a from transmit t z k m s r (if noted then Noted else NotNoted)
        makes-departed z m r saved moment told noted good was same reads gave departs =
            let q = follows-departed noted t w z moment (has-tried false good) reads in
            makes-sending A true noted t z k m s r (if noted then Noted else NotNoted) q.0 (sending-time a noted saved was)
            (same ∙ count ∙ ap (λ b. counted_send b k) good) (λ history stands.
            rw (departing-time a saved was) (Tells-one history (event.Departed from.address saved (q.0.0 (ReadClock ∷ TriedSend ∷ []))) (departure_outcome noted) r
            (subst (λ m. TellsOne history (event.Departed from.address saved m) (departure_outcome noted) r) (sym q.1)
            (subst (λ x. TellsOne history (event.Departed x saved moment) (departure_outcome noted) r) (sym e)
            (subst (λ b. TellsOne history (event.Departed address saved moment) (departure_outcome b) r) gave (departs history stands))))))
