use Rattle.std.proofs.Common.{◌+◌, ◌++◌, ◌∷◌, [], arith, sym, ap, ◌∙◌, subst, take, length}
use Rattle.std.proofs.lemmas.List.{length-append, length-take-le, take_more, take_all}
use Rattle.std.specs.Prelude.{zip}
use Rattle.ntp_service.specs.Headline.{Tells}
use Rattle.ntp_service.proofs.Runs.{Tells-nil, Tells-push, zip-push}
use Rattle.ntp_service.proofs.{Forgeries.without-forgeries, Stretches.tells-few}
use Rattle.ntp_service.proofs.service.Service.run.Goals as goal

pub loop-event-init : goal.loop-event-init
loop-event-init g c =
    record {
      count = c.in-Ok.ensures.len;
      room = c.in-Ok.ensures.capacity;
      each = ap length c.in-Ok.ensures.items;
      tells = λ history stands. Tells-nil history _ stands;
    }

pub loop-event-preserved : goal.loop-event-preserved
loop-event-preserved g c =
    let i = c.loop-event.invariant in
    let e = c.event-item.result in
    let p = c.push_reserved.ensures in
    let done = take c.loop-event.event-index c.args.events.now in
    let more = take_more c.args.events.now c.loop-event.event-index e c.loop-event-test.true
    ∙ ap (λ x. done ++ x ∷ []) (sym c.event-item.is) in
    let even = i.each ∙ sym (length-take-le c.loop-event.event-index c.args.events.now (omega arith)) in
    record {
      count = p.len ∙ ap (λ n. n + 1) i.count;
      room = omega (arith, i.room, p.capacity);
      each = ap length p.items ∙ length-append c.loop-event.outcomes.items (c.apply.result ∷ []) ∙ ap (λ n. n + 1) i.each;
      tells = λ history stands. rw (more, p.items, zip-push done c.loop-event.outcomes.items e c.apply.result even)
          (Tells-push history _ _ _ e c.apply.result (i.tells history stands) (λ so_far. c.apply.ensures _ so_far));
    }

pub returns-clause-tells : goal.returns-clause-tells
returns-clause-tells g c = λ history stands.
    let all = take_all c.loop-event.event-index c.args.events.now (omega arith) in
    subst (λ events. Tells history (zip events c.loop-event.outcomes.items) c.loop-event.self) all
    (c.loop-event.invariant.tells history stands)

pub returns-clause-forgeries : goal.returns-clause-forgeries
returns-clause-forgeries g c = λ history stands. without-forgeries history _ _ (returns-clause-tells g c history stands)

pub returns-clause-bound : goal.returns-clause-bound
returns-clause-bound g c = λ history stands. tells-few history _ _ (returns-clause-tells g c history stands)
