-- The calls of a wire, as a port over it tells them.
use Rattle.std.proofs.Common.{◌≡◌, ℕ, zero, suc, ◌<◌, min, Bool, true, false, Option, None, Some, Result, Ok, Err, List, [], ◌∷◌, ◌++◌, length, get_or, map, take, drop, refl, sym, ap, ◌∙◌, subst, arith, tests}
use Rattle.std.proofs.{lemmas.Bool.false≢true, lemmas.List.take_all}
use Rattle.std.specs.Prelude.{IfSome, IfNone, IsSomeAnd, IsErrAnd, option_map, ◌-◌, ◌^◌, if◌then◌else◌}
use Rattle.std.specs.{declared.io.Error.Error, Bool.then_some, Option.option_flatten, IoError.error_kind}
use Rattle.std.specs.declared.net.socket_addr.SocketAddr.{SocketAddr, TheVariants.V4, TheVariants.V6}
use Rattle.std.specs.{declared.net.socket_addr.SocketAddrV4.SocketAddrV4, Net.Addr.ipv4_octets, Net.Socket.v4_ip}
use Rattle.std.specs.Net.Socket.{v4_port}
use Rattle.ntp_packet.specs.declared.moment.Moment.{Moment}
use Rattle.ntp_service.specs.{declared.address.Address.Address, declared.observation.Arrival.Arrival}
use Rattle.ntp_port.specs.declared.port.PortFault.{PortFault, TheVariants.Receive, TheVariants.Send}
use Rattle.ntp_port.specs.{Made.arrival_of, Port.TurnCall, Port.ReadClock, Port.TriedSend, Port.Readings, Port.behind}
use Rattle.ntp_port.specs.Port.{no_turn, Told, Arrives, Begins, ReceiveTells, DropTells, NowTells, SendTells, received}
use Rattle.ntp_host.specs.Clock.{unread}
use Rattle.ntp_host.specs.Wire.{WireDatagram, WireTurn, no_wire_turn, WireTold, next_turn, idle_before, is_idle, begun, waited, WireGives, ReceivesBehind, WireReceives, WireShows, WireWaits, WireDrops, WireSends, SendsWhole, wire_sends, sent_to, middle, departing, port_clock, port_datagram, port_turn, port_told}

-- ---- the turn that comes next
middle-unread : (shown : Option Moment) → middle shown unread ≡ unread
middle-unread shown = grind arith

departs-unread : (shown : Option Moment) (sent : Bool) (calls : List TurnCall) → departing shown sent (λ c. unread) calls ≡ unread
departs-unread shown false [] = refl
departs-unread shown true [] = middle-unread shown
departs-unread shown sent (ReadClock ∷ calls) = departs-unread (Some unread) false calls
departs-unread shown sent (TriedSend ∷ calls) = departs-unread shown true calls

no-turn : port_turn no_wire_turn ≡ no_turn
no-turn = λ i. record { arrival = None; clock = λ calls. departs-unread None false calls i; sends = false }

port-next : (coming : List WireTurn) → port_turn (get_or coming 0 no_wire_turn) ≡ get_or (map port_turn coming) 0 no_turn
port-next [] = no-turn
port-next (turn ∷ coming) = refl

port-rest : (coming : List WireTurn) → map port_turn (drop 1 coming) ≡ drop 1 (map port_turn coming)
port-rest [] = refl
port-rest (turn ∷ coming) = refl

-- ---- a turn begins
-- a send before it does not matter
departs-anew : (later : Bool) (clock : Readings) → departing None later clock ≡ departing None false clock
departs-anew false clock = refl
departs-anew true clock = λ i calls. by calls i
  where
    by : (calls : List TurnCall) → departing None true clock calls ≡ departing None false clock calls
    by [] = refl
    by (ReadClock ∷ calls) = refl
    by (TriedSend ∷ calls) = refl

module _ (shown : Option Moment) (sent later : Bool) (old : WireTold) where
  abbrev told : Told
  told = port_told shown sent old

  -- this clock is that of the port's turn
  began : (clock : Readings) (r : Result Arrival PortFault) (room : List ℕ)
      → departing None false clock ≡ port_clock (next_turn old).arrival (next_turn old).clock → Arrives (port_turn (next_turn old)).arrival r room
      → Begins (get_or told.coming 0 no_turn) told (port_told None later (record (begun old) { clock = clock })) r room
  began clock r room shows arrives = subst (λ turn. Begins turn told (port_told None later (record (begun old) { clock = clock })) r room)
      (port-next old.coming) (arrives, rw (departs-anew later clock, shows, port-rest old.coming) refl)

  -- a receive failed
  begins-none : (room : List ℕ) → (next_turn old).arrival ≡ None
      → Begins (get_or told.coming 0 no_turn) told (port_told None later (begun old)) (Err Receive) room
  begins-none room none = began (next_turn old).clock (Err Receive) room (rw none refl) (rw none refl)

  -- a datagram was taken, and the clock was read once, or is told as if it had been
  begins-some : (d : WireDatagram) (arrival : Arrival) (room : List ℕ) → (next_turn old).arrival ≡ Some d
      → Arrives (Some (port_datagram (next_turn old).clock d)) (Ok arrival) room
      → Begins (get_or told.coming 0 no_turn) told (port_told None later (record (begun old) { clock = behind ReadClock (next_turn old).clock }))
      (Ok arrival) room
  begins-some d arrival room some arrives = began (behind ReadClock (next_turn old).clock) (Ok arrival) room (rw some refl) (rw some arrives)

-- ---- what a receive gave
-- it failed
abbrev pub Fails : Result (ℕ × SocketAddr) Error → Type 0
Fails (Ok (length, V4 source)) = ⊥
Fails (Ok (length, other)) = Unit {0}
Fails (Err error) = is_idle (error_kind error) ≡ false

gives-none : (r : Result (ℕ × SocketAddr) Error) (room : List ℕ) (arrival : Option WireDatagram) → Fails r → WireGives arrival r room → arrival ≡ None
gives-none r room None fails gives = refl
gives-none (Err error) room (Some d) fails gives = absurd gives
gives-none (Ok (length, V4 source)) room (Some d) fails gives = absurd fails
gives-none (Ok (length, V6 source)) room (Some d) fails gives = absurd gives.0

not-idle : (r : Result (ℕ × SocketAddr) Error) → Fails r → IsErrAnd r (λ error. is_idle (error_kind error) ≡ true) → ⊥
not-idle (Ok taken) fails idle = idle
not-idle (Err error) fails idle = false≢true (sym fails ∙ idle)

-- nothing is told anew where nothing came
pub stays : {X : Type 0} (A : Type 0) (r : Option X) (before after first : Option Told) → A → IfNone r (after ≡ before) → before ≡ first
    → IfNone r (A × (after ≡ first))
stays A None before after first is nothing start = (is, nothing ∙ start)
stays A (Some x) before after first is nothing start = tt

-- ---- the calls, of a wire that tells or not
-- what the port tells
abbrev pub over : Option Moment → Bool → Option WireTold → Option Told
over shown sent t = option_map (port_told shown sent) t

module _ (shown : Option Moment) (sent : Bool) where
  pub shows : (t u : Option WireTold) (r moment : Moment) → moment ≡ (if sent then middle shown r else r) → WireShows t u r
      → NowTells (over shown sent t) (over (Some r) false u) moment
  shows None u r moment is p = tt
  shows (Some old) None r moment is p = absurd p
  shows (Some old) (Some new) r moment is p = (
    is ∙ ap (λ z. if sent then middle shown z else z) p.0,
    ap (port_told (Some r) false) p.1
        ∙ ap (λ z. record (port_told shown sent old) { clock = departing (Some z) false (behind ReadClock old.clock) }) p.0,
  )

  -- what it showed before a send that was tried
  pub shown-before : (r : Moment) → middle (option_flatten (then_some sent shown)) r ≡ (if sent then middle shown r else r)
  shown-before r = grind (arith, tests)

  -- ---- a receive
  pub receives-none : (later : Bool) (t u : Option WireTold) (r : Result (ℕ × SocketAddr) Error) (room : List ℕ) → Fails r → WireReceives t u r room
      → ReceiveTells (over shown sent t) (over None later u) (Err Receive) room
  receives-none later None u r room fails p = tt
  receives-none later (Some old) None r room fails p = absurd p
  receives-none later (Some old) (Some new) r room fails p = by_idle (idle_before old) p
    where
      by_idle : (n : ℕ) → ReceivesBehind n old new r room → ReceiveTells (over shown sent (Some old)) (over None later (Some new)) (Err Receive) room
      by_idle zero q = subst (λ w. ReceiveTells (over shown sent (Some old)) (Some (port_told None later w)) (Err Receive) room) (sym q.1)
          (begins-none shown sent later old room (gives-none r room (next_turn old).arrival fails q.0))
      by_idle (suc left) q = absurd (not-idle r fails q.0)

  -- a datagram came, and the clock was read
  pub receives-some : (later : Bool) (t u v : Option WireTold) (source : SocketAddrV4) (arrival : Arrival) (room : List ℕ)
      → ipv4_octets (v4_ip source) ≡ arrival.address.0 → v4_port source ≡ arrival.port
      → WireReceives t u (Ok (arrival.length, V4 source)) room → WireShows u v arrival.receipt
      → ReceiveTells (over shown sent t) (over None later v) (Ok arrival) room
  receives-some later None u v source arrival room address port p q = tt
  receives-some later (Some old) None v source arrival room address port p q = absurd p
  receives-some later (Some old) (Some mid) None source arrival room address port p q = absurd q
  receives-some later (Some old) (Some mid) (Some new) source arrival room address port p q = by_idle (idle_before old) p
    where
      by_arrival : (a : Option WireDatagram) → (next_turn old).arrival ≡ a → WireGives a (Ok (arrival.length, V4 source)) room → mid ≡ begun old
          → ReceiveTells (over shown sent (Some old)) (over None later (Some new)) (Ok arrival) room
      by_arrival None is gives begins = absurd gives
      by_arrival (Some d) is gives begins =
          let after : new ≡ record (begun old) { clock = behind ReadClock (next_turn old).clock } =
          q.1 ∙ ap (λ (w : WireTold). record w { clock = behind ReadClock w.clock }) begins in
          let receipt : arrival.receipt ≡ (next_turn old).clock [] = q.0 ∙ ap (λ (w : WireTold). w.clock []) begins in
          subst (λ w. ReceiveTells (over shown sent (Some old)) (Some (port_told None later w)) (Ok arrival) room) (sym after)
          (begins-some shown sent later old d arrival room is (
            ap (λ z. record { 0 = z }) (sym address ∙ gives.0.0),
            sym port ∙ gives.0.1,
            receipt,
            gives.1,
          ))

      by_idle : (n : ℕ) → ReceivesBehind n old mid (Ok (arrival.length, V4 source)) room
          → ReceiveTells (over shown sent (Some old)) (over None later (Some new)) (Ok arrival) room
      by_idle zero p = by_arrival (next_turn old).arrival refl p.0 p.1
      by_idle (suc left) p = absurd p.0

  -- nothing came in time
  waited-told : (left : ℕ) (old : WireTold) → idle_before old ≡ suc left → port_told shown sent (waited left old) ≡ port_told shown sent old
  waited-told left old idle = by_coming old.coming refl
    where
      by_coming : (coming : List WireTurn) → old.coming ≡ coming → port_told shown sent (waited left old) ≡ port_told shown sent old
      by_coming [] is = absurd (omega (arith, idle, ap (λ l. min (get_or l 0 no_wire_turn).idle (2 ^ 64 - 2)) is))
      by_coming (turn ∷ rest) is = rw is refl

  pub receives-nothing : (t u : Option WireTold) (error : Error) (room : List ℕ) → is_idle (error_kind error) ≡ true → WireReceives t u (Err error) room
      → (over shown sent u ≡ over shown sent t) × IfSome t (λ old. IsSomeAnd u (λ new. idle_before new < idle_before old))
  receives-nothing None u error room idle p = (ap (over shown sent) p, tt)
  receives-nothing (Some old) None error room idle p = absurd p
  receives-nothing (Some old) (Some new) error room idle p = by_idle (idle_before old) refl p
    where
      by_idle : (n : ℕ) → idle_before old ≡ n → ReceivesBehind n old new (Err error) room
          → (over shown sent (Some new) ≡ over shown sent (Some old)) × (idle_before new < idle_before old)
      by_idle zero is p = absurd (gives (next_turn old).arrival p.0)
        where
          gives : (a : Option WireDatagram) → WireGives a (Err error) room → ⊥
          gives None q = false≢true (sym q ∙ idle)
          gives (Some d) q = q
      by_idle (suc left) is p = (
        ap (λ w. Some (port_told shown sent w)) p.1 ∙ ap Some (waited-told left old is),
        omega (arith, is, ap idle_before p.1),
      )

  -- the socket was shut down
  pub waits-none : (later : Bool) (t u : Option WireTold) (room : List ℕ) → WireWaits true t u
      → ReceiveTells (over shown sent t) (over None later u) (Err Receive) room
  waits-none later None u room p = tt
  waits-none later (Some old) u room p = subst (λ o. ReceiveTells (over shown sent (Some old)) (over None later o) (Err Receive) room) (sym p.1)
      (begins-none shown sent later old room p.0)

  -- a datagram was dropped
  pub drops : (later : Bool) (t u : Option WireTold) → WireDrops true t u → DropTells (over shown sent t) (over None later u) true
  drops later None u p = tt
  drops later (Some old) u p =
      let from = port_datagram (next_turn old).clock p.0 in
      let whole : take (length (received from)) (received from) ≡ received from = take_all (length (received from)) (received from) (omega arith) in (
        arrival_of from,
        received from,
        subst (λ o. ReceiveTells (over shown sent (Some old)) (over None later o) (Ok (arrival_of from)) (received from)) (sym p.2)
            (begins-some shown sent later old p.0 (arrival_of from) (received from) p.1 (refl, refl, refl, whole)),
      )

  -- ---- a send
  module _ (target : SocketAddrV4) (address : Address) (port : ℕ) (reply : List ℕ) (here : ipv4_octets (v4_ip target) ≡ address.0)
      (there : v4_port target ≡ port) where
    to : sent_to target reply ≡ record { address = address; port = port; reply = reply }
    to = ap (λ z. record { address = record { 0 = z }; port = v4_port target; reply = reply }) here
        ∙ ap (λ z. record { address = address; port = z; reply = reply }) there

    -- it was sent whole, or not
    sends : (r : Result ℕ Error) (whole : Bool) (t u : Option WireTold)
        → ((b : Bool) → SendsWhole b r reply → b ≡ whole) → WireSends t u target reply r
        → SendTells (over shown sent t) (over shown true u) address port reply (if whole then Ok tt else Err Send)
    sends r whole None u is p = tt
    sends r whole (Some old) None is p = absurd p
    sends r whole (Some old) (Some new) is p = (
      ap (λ b. if b then Ok tt else Err Send) (sym (is (wire_sends old reply) p.0)),
      ap (port_told shown true) p.1 ∙ ap (λ z. record (port_told shown sent old) {
        clock = behind TriedSend (departing shown sent old.clock);
        has_tried_send = true;
        sent = if wire_sends old reply then old.sent ++ z ∷ [] else old.sent;
      }) to,
    )

    pub sends-whole : (t u : Option WireTold) (count : ℕ) → count ≡ length reply → WireSends t u target reply (Ok count)
        → SendTells (over shown sent t) (over shown true u) address port reply (Ok tt)
    sends-whole t u count is = sends (Ok count) true t u by_whole
      where
        by_whole : (b : Bool) → SendsWhole b (Ok count) reply → b ≡ true
        by_whole true q = refl
        by_whole false q = absurd (q (ap Ok is))

    pub sends-not : (t u : Option WireTold) (r : Result ℕ Error) → (r ≡ Ok (length reply) → ⊥) → WireSends t u target reply r
        → SendTells (over shown sent t) (over shown true u) address port reply (Err Send)
    sends-not t u r is = sends r false t u by_whole
      where
        by_whole : (b : Bool) → SendsWhole b r reply → b ≡ false
        by_whole true q = absurd (is q)
        by_whole false q = refl
