use Rattle.std.proofs.Common.{◌+◌, arith, take, ◌∷◌, [], ◌++◌, ◌≡◌, ◌∙◌, refl, sym, ap}
use Rattle.std.proofs.lemmas.List.{take_more, take_all}
use Rattle.ntp_admin.proofs.Enrolments.{Enrolled-none, Enrolled-more, Enrolled-refused, Enrolled-tells}
use Rattle.ntp_admin.proofs.loading.enrolled.Goals as goal

pub returns-in-Err-clause-fault : goal.returns-in-Err-clause-fault
returns-in-Err-clause-fault c =
    let refused = Enrolled-refused _ _ c.index-commands-place.result _ _ _ c.loop-place.invariant (omega arith) c.index-commands-place.is
    c.in-Err.ensures.tells in
    (_, _, refl, refused)

pub loop-place-init : goal.loop-place-init
loop-place-init c = Enrolled-none _ c.new-service.ensures

pub loop-place-preserved : goal.loop-place-preserved
loop-place-preserved c =
    let done = take c.loop-place.place c.args.commands.now in
    let command = c.index-commands-place.result in
    let more : take (c.loop-place.place + 1) c.args.commands.now ≡ done ++ command ∷ [] =
    take_more c.args.commands.now c.loop-place.place command (omega arith) ∙ ap (λ x. done ++ x ∷ []) (sym c.index-commands-place.is) in
    rw more (Enrolled-more done command _ _ c.loop-place.invariant c.in_default.ensures.tells)

pub returns-clause-done : goal.returns-clause-done
returns-clause-done c =
    let all = take_all c.loop-place.place c.args.commands.now (omega arith) in
    Enrolled-tells _ _ (rw all at c.loop-place.invariant)
