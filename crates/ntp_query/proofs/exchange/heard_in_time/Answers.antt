use Rattle.std.proofs.Common.{take, refl, sym, ap, ◌∙◌}
use Rattle.ntp_query.specs.Asker.{heard_by}
use Rattle.ntp_query.proofs.Hearing.{Goes-begin, Goes-on, Goes-end, Goes-over}
use Rattle.ntp_query.proofs.exchange.heard_in_time.Goals as goal

pub loop-received-init : goal.loop-received-init
loop-received-init g c = record { asker = refl; sent = refl; goes = Goes-begin _ _ }

pub returns-then-ends-clause-outcome : goal.returns-then-ends-clause-outcome
returns-then-ends-clause-outcome g c =
    Goes-end _ _ _ _ _ _ _ _ c.loop-received.invariant.goes c.in-Some.ensures.came
    (c.hear-latest.ensures.outcome ∙ ap (λ s. heard_by s (take c.in-Some.received.length c.receive.new.room) c.in-Some.received.at) c.loop-received.invariant.asker) (sym c.ends.ensures ∙ c.if-ends.true)

pub loop-received-preserved : goal.loop-received-preserved
loop-received-preserved g c =
    let waits = sym c.ends.ensures ∙ c.if-ends.false in
    record {
      asker = c.hear-latest.ensures.waits waits ∙ c.loop-received.invariant.asker;
      sent = c.in-Some.ensures.sent ∙ c.loop-received.invariant.sent;
      goes = Goes-on _ _ _ _ _ _ _ _ c.loop-received.invariant.goes c.in-Some.ensures.came
          (c.hear-latest.ensures.outcome ∙ ap (λ s. heard_by s (take c.in-Some.received.length c.receive.new.room) c.in-Some.received.at) c.loop-received.invariant.asker) waits;
    }

pub returns-clause-outcome : goal.returns-clause-outcome
returns-clause-outcome g c = Goes-over _ _ _ _ c.loop-received.invariant.goes c.in_default.ensures.over
