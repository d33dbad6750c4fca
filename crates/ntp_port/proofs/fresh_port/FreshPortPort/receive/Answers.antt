use Rattle.std.proofs.Common.{rules, inl, inr, None, Some, refl, arith}
use Rattle.ntp_port.proofs.{Waiting.Passes-after, Waiting.Passes-nothing, Passing.passes-received, Passing.passes-given_up}
use Rattle.ntp_port.proofs.fresh_port.FreshPortPort.receive.Goals as goal

pub loop-wait-init : goal.loop-wait-init
loop-wait-init g c = record { counts = search rules; waits = inl (refl, refl) }

pub loop-wait-preserved : goal.loop-wait-preserved
loop-wait-preserved g c = record {
  counts = search rules;
  waits = inr (Passes-after _ _ _ _ None _ _ c.loop-wait.invariant.waits c.in_default.ensures.fresh.0);
}

pub returns-in-Some-clause-fresh : goal.returns-in-Some-clause-fresh
returns-in-Some-clause-fresh g c =
    (Some c.in-Some.received, Passes-after _ _ _ _ (Some c.in-Some.received) _ _ c.loop-wait.invariant.waits c.in-Some.ensures.fresh.0, refl)

pub returns-clause-fresh : goal.returns-clause-fresh
returns-clause-fresh g c = (None, Passes-nothing _ _ _ _ (omega arith) c.loop-wait.invariant.waits, refl)

pub returns-in-Some-clause-turns : goal.returns-in-Some-clause-turns
returns-in-Some-clause-turns g c =
    let passes = Passes-after _ _ _ _ (Some c.in-Some.received) _ _ c.loop-wait.invariant.waits c.in-Some.ensures.fresh.0 in
    passes-received _ _ _ _ passes

pub returns-clause-turns : goal.returns-clause-turns
returns-clause-turns g c =
    let passes = Passes-nothing _ _ _ _ (omega arith) c.loop-wait.invariant.waits in passes-given_up _ _ _ passes
