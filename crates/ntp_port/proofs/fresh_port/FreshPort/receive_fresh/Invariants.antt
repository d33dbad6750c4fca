use Rattle.ntp_port.specs.{declared.fresh_port.Next.TheVariants.Stale, Fresh.kept_by, Next.CountsNext, Next.Drops}
use Rattle.ntp_port.proofs.fresh_port.FreshPort.receive_fresh.Given as goal

abbrev pub invariant-loop-sweep : goal.invariant-loop-sweep
invariant-loop-sweep g l = record {
  counts : CountsNext l.fn.self.counts l.self.counts Stale;
  drops : Drops l._sweep (kept_by l.fn.self)
      (kept_by l.self);
}
