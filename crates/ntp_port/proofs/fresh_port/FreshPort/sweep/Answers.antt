use Rattle.std.proofs.Common.{rules, refl, arith}
use Rattle.ntp_port.proofs.DroppingStale.{Drops-none, Drops-append}
use Rattle.ntp_port.proofs.fresh_port.FreshPort.sweep.Goals as goal

pub loop-init : goal.loop-init
loop-init g c = record { counts = search rules; drops = Drops-none _ (omega arith) (omega arith) }

pub loop-preserved : goal.loop-preserved
loop-preserved g c = record {
  counts = search rules;
  drops = Drops-append 0 0 0 _ _ _ refl c.loop.invariant.drops c.drop_next.ensures.drops;
}

pub returns-then-not-drop_next-clause-drops : goal.returns-then-not-drop_next-clause-drops
returns-then-not-drop_next-clause-drops g c = Drops-append 0 0 0 _ _ _ refl c.loop.invariant.drops c.drop_next.ensures.drops
