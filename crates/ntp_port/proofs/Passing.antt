-- What is received behind the datagrams that are dropped.
use Rattle.std.proofs.Common.{◌≡◌, ℕ, ◌+◌, List, Option, None, Some, Result, Err, true, false, refl, subst, arith}
use Rattle.std.specs.Prelude.{IfSome, IfNone}
use Rattle.ntp_service.specs.declared.observation.Arrival.{Arrival}
use Rattle.ntp_port.specs.{declared.port.PortFault.PortFault, declared.port.PortFault.TheVariants.Receive}
use Rattle.ntp_port.specs.Port.{Told, TellsOn, DropsTurns, CountsMore, DropsAny, Receives}
use Rattle.ntp_port.proofs.Dropping.{DropsTurns-append}
use Rattle.ntp_port.specs.Fresh.{Kept, PassesOnFresh, counted_on}

counts-more : (count after more : ℕ) → after ≡ counted_on count more → CountsMore count after more
counts-more count after more counted = λ below. let all : after ≡ count + more = omega (arith, counted, below) in all

-- those that are dropped, and no turn more
drops-on : (n : ℕ) (t u v : Option Told) → DropsTurns n t u → TellsOn u v → DropsTurns n t v
drops-on n t u v drops on =
    let none : n + 0 ≡ n = omega arith in subst (λ m. DropsTurns m t v) none (DropsTurns-append n 0 t u v drops on)

-- a port may drop that passes on only what may be answered, and counts what it drops
pub passes-nothing : (a b : Kept) (datagram : List ℕ) → PassesOnFresh a b None datagram → DropsAny true a.stale b.stale a.told b.told
passes-nothing a b datagram passes = grind (arith, counts-more, drops-on)

pub passes-received : (a b : Kept) (received : Result Arrival PortFault) (datagram : List ℕ) → PassesOnFresh a b (Some received) datagram
    → Receives true a.stale b.stale a.told b.told received datagram
passes-received a b received datagram passes = grind (arith, counts-more)

-- where it gives up, no turn began behind them
pub passes-given_up : (a b : Kept) (datagram : List ℕ) → PassesOnFresh a b None datagram
    → Receives true a.stale b.stale a.told b.told (Err Receive) datagram
passes-given_up a b datagram passes = grind (arith, counts-more)

pub passes-some : (a b : Kept) (result : Option (Result Arrival PortFault)) (datagram : List ℕ) → PassesOnFresh a b result datagram
    → IfSome result (λ received. Receives true a.stale b.stale a.told b.told received datagram)
passes-some a b result datagram e = grind (arith, passes-received)

pub passes-none : (a b : Kept) (result : Option (Result Arrival PortFault)) (datagram : List ℕ) → PassesOnFresh a b result datagram
    → IfNone result ((false ≡ false) × DropsAny true a.stale b.stale a.told b.told)
passes-none a b None datagram passes = (refl, passes-nothing a b datagram passes)
passes-none a b (Some received) datagram passes = tt
