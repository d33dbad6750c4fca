use Rattle.std.proofs.Common.{sym, ◌∙◌}
use Rattle.ntp_reply.proofs.KeptExchanges.{kept-after_departure, not-noted}
use Rattle.ntp_reply.proofs.departing.depart.Goals as goal

pub returns-then-is_enrolled-clause-after : goal.returns-then-is_enrolled-clause-after
returns-then-is_enrolled-clause-after g c = λ past kept.
    kept-after_departure past c.args.customer.now c.args.receive c.args.moment c.slots_mut.result.now c.depart.new.self kept
    (sym c.if-is_enrolled.ensures.value) c.slots_mut.ensures.value c.depart.ensures.departed

pub returns-else-is_enrolled-clause-noted : goal.returns-else-is_enrolled-clause-noted
returns-else-is_enrolled-clause-noted g c = λ past kept.
    c.if-is_enrolled.false ∙ not-noted past c.args.customer.now c.args.receive kept (sym c.if-is_enrolled.ensures.value)
