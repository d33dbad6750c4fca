-- What a port tells over several calls.
use Rattle.std.proofs.Common.{◌≡◌, ℕ, ◌≤◌, max, List, [], ◌∷◌, ◌++◌, Option, None, Some, Result, refl, sym, ap, ◌∙◌, arith, append_assoc}
use Rattle.ntp_service.specs.declared.observation.Arrival.{Arrival}
use Rattle.ntp_port.specs.{declared.port.PortFault.PortFault, declared.queue_event.QueueEvent.QueueEvent}
use Rattle.ntp_port.specs.{declared.queue_event.QueueEvent.TheVariants.Read, Fresh.IsSeenFrom}
use Rattle.ntp_port.specs.Queue.{last_reading, ReadsClock, TellsEvents, seen_in_wait}

-- nothing was seen
SeesMore-none : (q : Option (List QueueEvent)) → TellsEvents q q (λ shown. [])
SeesMore-none q = grind arith

-- these, and then those
SeesMore-append : (q r s : Option (List QueueEvent)) (first second : List QueueEvent) → TellsEvents q r (λ shown. first)
    → TellsEvents r s (λ shown. second) → TellsEvents q s (λ shown. second ++ first)
SeesMore-append q r s first second e f = grind (arith, append_assoc)

pub IsSeenFrom-same : (reading : ℕ) (q : Option (List QueueEvent)) (history : List QueueEvent) → IsSeenFrom reading reading q q history history
IsSeenFrom-same reading q history shown = (shown, [], refl, SeesMore-none q)

pub IsSeenFrom-more : (a b c : ℕ) (q r s : Option (List QueueEvent)) (h k m : List QueueEvent) → IsSeenFrom a b q r h k → IsSeenFrom b c r s k m
    → IsSeenFrom a c q s h m
IsSeenFrom-more a b c q r s h k m first second shown =
    let x = first shown in
    let y = second x.0 in
    (y.0, y.1 ++ x.1, y.2 ∙ ap (λ xs. y.1 ++ xs) x.2 ∙ sym (append_assoc y.1 x.1 h), SeesMore-append q r s x.1 y.1 x.3 y.3)

-- a call that reads no clock saw this
pub seen-in_call : (reading : ℕ) (q r : Option (List QueueEvent)) (seen : ℕ → List QueueEvent)
    → ((shown : ℕ) (told : List QueueEvent) → last_reading (seen shown ++ told) ≡ last_reading told) → TellsEvents q r seen
    → (h : List QueueEvent) → IsSeenFrom reading reading q r h (seen reading ++ h)
seen-in_call reading q r seen e f h = grind arith

-- a wait reads no clock
keeps-wait : (received : Option (Result Arrival PortFault)) (shown : ℕ) (told : List QueueEvent)
    → last_reading (seen_in_wait received shown ++ told) ≡ last_reading told
keeps-wait received shown told = grind arith

-- so a wait saw this, where what it gave is known
seen-in_wait : (reading : ℕ) (q r : Option (List QueueEvent)) (received given : Option (Result Arrival PortFault)) → received ≡ given
    → TellsEvents q r (seen_in_wait received) → (h : List QueueEvent) → IsSeenFrom reading reading q r h (seen_in_wait given reading ++ h)
seen-in_wait reading q r received given is tells = grind (arith, seen-in_call, keeps-wait)

-- a reading of a clock that did not go back
seen-in_reading : (reading now shows : ℕ) (q r : Option (List QueueEvent)) (h : List QueueEvent) → (reading ≤ shows → now ≡ shows)
    → ReadsClock q r shows → IsSeenFrom reading now q r h (Read now ∷ h)
seen-in_reading reading now shows q None h later tells shown = (tt, Read now ∷ [], refl, tt)
seen-in_reading reading now shows None (Some r) h later tells shown = absurd tells
seen-in_reading reading now shows (Some q) (Some r) h later tells shown =
    let same : now ≡ shows = later (omega (arith, shown, tells.0)) in
    let told : r ≡ Read now ∷ q = tells.1 ∙ ap (λ n. Read n ∷ q) (sym same) in
    (ap last_reading told, Read now ∷ [], refl, told)

-- a look, a wait and a reading, one after another
pub seen-in_take : (a before now shows : ℕ) (q r s u : Option (List QueueEvent)) (received given : Option (Result Arrival PortFault))
    (h k : List QueueEvent) → IsSeenFrom a before q r h k → received ≡ given → TellsEvents r s (seen_in_wait received) → now ≡ max shows before
    → ReadsClock s u shows → IsSeenFrom a now q u h (Read now ∷ (seen_in_wait given before ++ k))
seen-in_take a before now shows q r s u received given h k looked is waited latest read =
    let known = seen_in_wait given before ++ k in
    IsSeenFrom-more a before now q s u h known (Read now ∷ known)
    (IsSeenFrom-more a before before q r s h k known looked (seen-in_wait before r s received given is waited k))
    (seen-in_reading before now shows s u known (λ below. omega (arith, latest, below)) read)
