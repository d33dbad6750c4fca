use Rattle.std.proofs.Common.{rules, None, Some, Ok, Err, refl, arith}
use Rattle.ntp_port.specs.declared.fresh_port.Next.TheVariants.{Nothing, Fault, Fresh}
use Rattle.ntp_port.proofs.DroppingStale.{Drops-none, Drops-more, Passes-end, Passes-out}
use Rattle.ntp_port.proofs.fresh_port.FreshPort.receive_fresh.Goals as goal

pub loop-sweep-init : goal.loop-sweep-init
loop-sweep-init g c = record { counts = search rules; drops = Drops-none _ (omega arith) (omega arith) }

pub loop-sweep-preserved : goal.loop-sweep-preserved
loop-sweep-preserved g c = record {
  counts = search rules;
  drops = Drops-more _ _ _ _ _ c.saturating_add-self-in-Stale.result _ c.loop-sweep.invariant.drops c.in-Stale.ensures.next c.saturating_add-self-in-Stale.ensures
      c.sweep.ensures.drops;
}

pub returns-in-Nothing-clause-fresh : goal.returns-in-Nothing-clause-fresh
returns-in-Nothing-clause-fresh g c = Passes-end _ _ _ _ Nothing None _ (omega arith) c.loop-sweep.invariant.drops c.in-Nothing.ensures.next refl
    c.in-Nothing.ensures.next.turns (λ history after comes. (comes.0, λ few. comes.1))

pub returns-in-Fault-clause-fresh : goal.returns-in-Fault-clause-fresh
returns-in-Fault-clause-fresh g c = Passes-end _ _ _ _ (Fault c.in-Fault.fault) (Some (Err c.in-Fault.fault)) _ (omega arith) c.loop-sweep.invariant.drops
    c.in-Fault.ensures.next refl c.in-Fault.ensures.next.turns (λ history after comes. comes)

pub returns-in-Fresh-clause-fresh : goal.returns-in-Fresh-clause-fresh
returns-in-Fresh-clause-fresh g c = Passes-end _ _ _ _ (Fresh c.in-Fresh.arrival) (Some (Ok c.in-Fresh.arrival)) _ (omega arith) c.loop-sweep.invariant.drops
    c.in-Fresh.ensures.next refl c.in-Fresh.ensures.next.turns (λ history after comes. comes)

pub returns-clause-fresh : goal.returns-clause-fresh
returns-clause-fresh g c = Passes-out _ _ _ _ (omega arith) c.loop-sweep.invariant.drops
