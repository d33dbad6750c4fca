use Rattle.std.proofs.Common.{◌≡◌, true, arith}
use Rattle.ntp_port.proofs.DroppingStale.{Drops-none, Drops-swept}
use Rattle.ntp_port.proofs.fresh_port.FreshPort.drop_next.Goals as goal

pub returns-then-not-is_waiting-clause-drops : goal.returns-then-not-is_waiting-clause-drops
returns-then-not-is_waiting-clause-drops g c = Drops-none _ (omega arith) (omega arith)

pub returns-then-is_fresh-clause-drops : goal.returns-then-is_fresh-clause-drops
returns-then-is_fresh-clause-drops g c = Drops-none _ (omega arith) (omega arith)

pub returns-then-has_dropped-clause-drops : goal.returns-then-has_dropped-clause-drops
returns-then-has_dropped-clause-drops g c =
    Drops-swept _ _ _ _ _ c.took.ensures.longest (c.is_waiting.ensures.0 c.if-not-is_waiting.false) c.took.ensures.watches c.took.ensures.counts
    (λ history watches ordered may. let fresh : c.is_fresh.result ≡ true = c.is_fresh.ensures.stale history watches ordered may in absurd (cc))
    c.if-has_dropped.ensures.turns c.if-has_dropped.ensures.history c.saturating_add-self.ensures (omega arith)

pub returns-else-has_dropped-clause-drops : goal.returns-else-has_dropped-clause-drops
returns-else-has_dropped-clause-drops g c = grind arith
