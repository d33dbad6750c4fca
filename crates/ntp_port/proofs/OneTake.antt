-- One take, by the calls that were made in it.
use Rattle.std.proofs.Common.{◌≡◌, ℕ, max, List, ◌∷◌, ◌++◌, Option, Result, sym, subst, ◌∙◌, arith}
use Rattle.ntp_service.specs.declared.observation.Arrival.{Arrival}
use Rattle.ntp_port.specs.{declared.port.PortFault.PortFault, Port.Told, declared.queue_event.QueueEvent.QueueEvent}
use Rattle.ntp_port.specs.{declared.queue_event.QueueEvent.TheVariants.Read, declared.fresh_port.Next.Next, Freshness.WasWatched, Watch.longest_of}
use Rattle.ntp_port.specs.{Queue.ReadsClock, Queue.TellsEvents, Queue.seen_in_wait, Fresh.KeepsHistory, Fresh.Stands, Fresh.counted_on, Fresh.Kept}
use Rattle.ntp_port.specs.Next.{ComesTo, NextTells, drops_in, LooksOn, LooksAtQueue, TakesNext}
use Rattle.ntp_port.proofs.{Seeing.seen-in_take, Keeping.StandsFor-Read}

-- a look, a wait and a reading of the clock, one after another, are a take
pub takes-next : (a b d : Kept) (s : Option (List QueueEvent)) (v : Option Told) (shows : ℕ) (received given : Option (Result Arrival PortFault))
    (next : Next) (datagram : List ℕ) → LooksAtQueue a b (WasWatched (longest_of a.watch)) → received ≡ given
    → TellsEvents b.history s (seen_in_wait received) → d.reading ≡ max shows b.reading → ReadsClock s d.history shows → d.told ≡ v
    → d.stale ≡ counted_on b.stale (drops_in next) → d.sweeps ≡ b.sweeps → NextTells b.told v next datagram → longest_of d.watch ≡ longest_of b.watch
    → ((history : List QueueEvent) → Stands b history
    → KeepsHistory d.watch b.reading d.next_look (seen_in_wait given b.reading ++ history))
    → ((history : List QueueEvent) (look : LooksOn a b (WasWatched (longest_of a.watch)) history)
    → ComesTo (longest_of a.watch) history next (Read d.reading ∷ (seen_in_wait given b.reading ++ (look.events ++ history))))
    → TakesNext a d next datagram
takes-next a b d s v shows received given next datagram looks is waited latest read ticks counted swept tells longest stands comes = record {
  counted = subst (λ n. d.stale ≡ counted_on n (drops_in next)) looks.stale counted;
  sweeps = swept ∙ looks.sweeps;
  turns = subst (λ t. NextTells t d.told next datagram) looks.told (subst (λ u. NextTells b.told u next datagram) (sym ticks) tells);
  longest = longest ∙ looks.longest;
  each = λ history stood.
      let look = looks.each history stood in
      let before = look.events ++ history in
      let known = seen_in_wait given b.reading ++ before in (
        Read d.reading ∷ known,
        StandsFor-Read d.watch b.reading d.reading d.next_look known (omega (arith, latest)) (stands before look.stands),
        seen-in_take a.reading b.reading d.reading shows a.history b.history s d.history received given history before look.seen is waited
            latest read,
        comes history look,
      );
}
