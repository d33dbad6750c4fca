-- A wire in memory begins its next turn.
use Rattle.std.proofs.Common.{◌-◌, get_or, length-take, ◌≡◌, ℕ, ◌+◌, ◌<◌, min, Option, None, Some, Result, Ok, Err, List, [], ◌∷◌, ◌++◌, length, take, drop, map, refl, ap, ◌∙◌, subst, arith}
use Rattle.std.proofs.lemmas.{List.take_all, List.take-take, List.take-append-le, List.drop_more, Bool.Decides.eqb_tells, Option.slice_get_read}
use Rattle.std.specs.Prelude.{false, is_ok, option_map, slice_get}
use Rattle.std.specs.Option.{option_map_or}
use Rattle.std.specs.{declared.io.Error.Error, declared.net.socket_addr.SocketAddr.SocketAddr}
use Rattle.ntp_port.specs.{declared.queue_event.QueueEvent.QueueEvent, Queue.last_reading, Queue.TellsEvents}
use Rattle.ntp_host.specs.Wire.{WireDatagram, no_wire_turn, WireTold, idle_before, next_turn, seen_in_receive, WireGives, WireReceives, ReceivesBehind}
use Rattle.test_support.specs.{declared.memory_wire.Incoming.Incoming, declared.memory_wire.Turn.Turn, Wires.wire_datagram, Wires.turn_clock, Wires.wire_turn}

shortest : (xs : List ℕ) (n m : ℕ) → n ≡ min (length xs) m → take n xs ≡ take m xs
shortest xs n m e = grind (arith, eqb_tells, take_all)

-- the first octets of a buffer that begins with those of a datagram
pub cut : (xs ys zs : List ℕ) (n m : ℕ) → n ≡ min (length xs) m → zs ≡ take n xs → take n (zs ++ ys) ≡ take m xs
cut xs ys zs n m e f = grind (arith, length-take, take-append-le, take-take, shortest)

-- the turn at i begins, whose datagram is this
pub wire-begins : (A : Type 0) (turns : List (Turn A)) (i : ℕ) (x : Turn A) (arrival : Option (Incoming A)) (old : WireTold)
    (r : Result (ℕ × SocketAddr) Error) (room : List ℕ) → i < length turns → x ≡ get_or turns i x → x.arrival ≡ arrival
    → old.coming ≡ map wire_turn (drop i turns) → WireGives (option_map wire_datagram arrival) r room
    → ReceivesBehind (idle_before old) old (record {
      coming = map wire_turn (drop (i + 1) turns);
      present = option_map_or wire_turn (slice_get turns (i + 1 - 1)) no_wire_turn;
      clock = turn_clock arrival x.transmit x.departure;
      has_tried_send = false;
      sent = old.sent;
    }) r room
wire-begins A turns i x arrival old r room below is has told gives = grind (arith, drop_more, slice_get_read)

-- no receive of it is idle
never-idle : {A : Type 0} (turns : List (Turn A)) → (get_or (map wire_turn turns) 0 no_wire_turn).idle ≡ 0
never-idle [] = refl
never-idle (turn ∷ turns) = refl

-- so one that fails sees nothing of its queue
pub failed-unseen : {A : Type 0} (turns : List (Turn A)) (old : WireTold) (u : Option WireTold) (r : Result (ℕ × SocketAddr) Error)
    (room : List ℕ) → old.coming ≡ map wire_turn turns → WireReceives (Some old) u r room → is_ok r ≡ false → (shown : ℕ)
    → seen_in_receive r shown ≡ []
failed-unseen turns old None r room told receives failed shown = absurd receives
failed-unseen turns old (Some new) r room told receives failed shown =
    let none : idle_before old ≡ 0 = rw (ap (λ l. (get_or l 0 no_wire_turn).idle) told ∙ never-idle turns) refl in
    unseen (next_turn old).arrival r (subst (λ n. ReceivesBehind n old new r room) none receives).0 failed
  where
    unseen : (arrival : Option WireDatagram) (r : Result (ℕ × SocketAddr) Error) → WireGives arrival r room → is_ok r ≡ false
        → seen_in_receive r shown ≡ []
    unseen None (Ok taken) gives failed = absurd gives
    unseen None (Err error) gives failed = rw gives refl
    unseen (Some d) (Ok taken) gives failed = grind arith
    unseen (Some d) (Err error) gives failed = absurd gives

-- and leaves the history as it was
pub unseen-kept : (history : Option (List QueueEvent)) (seen : ℕ → List QueueEvent) → ((shown : ℕ) → seen shown ≡ [])
    → TellsEvents history history seen
unseen-kept None seen none = tt
unseen-kept (Some history) seen none = rw (none (last_reading history)) refl
