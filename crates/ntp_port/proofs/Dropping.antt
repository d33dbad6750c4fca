-- Datagrams that a port drops, one after another.
use Rattle.std.proofs.Common.{◌≡◌, ℕ, zero, suc, ◌+◌, Bool, true, false, List, Option, Result, Ok, sym, subst, ◌∙◌, arith}
use Rattle.ntp_service.specs.declared.observation.Arrival.{Arrival}
use Rattle.ntp_port.specs.declared.port.PortFault.{PortFault}
use Rattle.ntp_port.specs.Port.{Told, ReceiveTells, TellsOn, DropTells, DropsTurns, CountsMore, DropsAny, Receives}

-- ---- their turns
pub TellsOn-same : (t : Option Told) → TellsOn t t
TellsOn-same t = grind arith

pub TellsOn-is : (t u : Option Told) → u ≡ t → TellsOn t u
TellsOn-is t u is = subst (λ x. TellsOn t x) (sym is) (TellsOn-same t)

-- a receive whose datagram nobody sees
pub DropTells-received : (t u : Option Told) (arrival : Arrival) (datagram : List ℕ) → ReceiveTells t u (Ok arrival) datagram → DropTells t u true
DropTells-received t u arrival datagram e = grind arith

pub DropsTurns-one : (t u : Option Told) → DropTells t u true → DropsTurns 1 t u
DropsTurns-one t u drops = (u, drops, TellsOn-same u)

-- no turn, and then these
pub DropsTurns-on : (n : ℕ) (t u v : Option Told) → TellsOn t u → DropsTurns n u v → DropsTurns n t v
DropsTurns-on n t u v e f = grind arith

pub DropsTurns-append : (m n : ℕ) (t u v : Option Told) → DropsTurns m t u → DropsTurns n u v → DropsTurns (m + n) t v
DropsTurns-append zero n t u v first second = grind (arith, DropsTurns-on)
DropsTurns-append (suc m) n t u v first second =
    let e : suc m + n ≡ suc (m + n) = omega arith in
    rw e (first.0, first.1, DropsTurns-append m n first.0 u v first.2 second)

-- ---- and their number
pub CountsMore-nil : (c : ℕ) → CountsMore c c 0
CountsMore-nil c = λ below. let none : c ≡ c + 0 = omega arith in none

pub CountsMore-append : (c d e m n all : ℕ) → all ≡ m + n → CountsMore c d m → CountsMore d e n → CountsMore c e all
CountsMore-append c d e m n all sum first second = grind arith

-- ---- at a port that may drop or not
pub DropsAny-none : (may : Bool) (c : ℕ) (t : Option Told) → DropsAny may c c t t
DropsAny-none may c t = grind (arith, CountsMore-nil, TellsOn-same)

pub DropsAny-append : (may : Bool) (c d e : ℕ) (t u v : Option Told) → DropsAny may c d t u → DropsAny may d e u v → DropsAny may c e t v
DropsAny-append may c d e t u v f g = grind (arith, CountsMore-append, DropsTurns-append)

pub Receives-after : (may : Bool) (c d e : ℕ) (t u v : Option Told) (r : Result Arrival PortFault) (buffer : List ℕ) → DropsAny may c d t u
    → Receives may d e u v r buffer → Receives may c e t v r buffer
Receives-after false c d e t u v r buffer p k = (k.0 ∙ p.0, subst (λ x. ReceiveTells x v r buffer) p.1 k.1)
Receives-after true c d e t u v r buffer p k = (k.0, DropsAny-append true c d e t u k.0 p k.1, k.2)
