use Rattle.ntp_port.specs.{Fresh.kept_by, declared.fresh_port.Next.TheVariants.Stale, Next.CountsNext, Next.Drops}
use Rattle.ntp_port.proofs.fresh_port.FreshPort.sweep.Given as goal

abbrev pub invariant-loop : goal.invariant-loop
invariant-loop g l = record {
  counts : CountsNext l.fn.self.counts l.self.counts Stale;
  drops : Drops 0 (kept_by l.fn.self)
      (kept_by l.self);
}
