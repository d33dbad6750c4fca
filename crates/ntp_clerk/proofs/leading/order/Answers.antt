use Rattle.std.proofs.Common.{None, Some, arith}
use Rattle.std.proofs.lemmas.List.{drop_all}
use Rattle.ntp_clerk.specs.Steps.{done_in}
use Rattle.ntp_clerk.proofs.Doing.{at-step, going-all, going-can, going-more, going-none}
use Rattle.ntp_clerk.proofs.leading.order.Goals.{in-Some+in_ok-carry_out, in_default}
use Rattle.ntp_clerk.proofs.leading.order.Goals as goal

pub loop-step-init : goal.loop-step-init
loop-step-init c = going-none c.args.service.now c.args.address (done_in c.args.steps) c.args.commands.now.items c.requires

pub carry_out-requires : goal.carry_out-requires
carry_out-requires c =
    let left = at-step c.args.steps c.loop-step.step-index _ _ (omega (arith, c.loop-step-test.true)) c.in-Some.is in
    going-can c.args.service.now c.loop-step.service c.args.address (done_in c.args.steps) c.args.commands.now.items c.loop-step.commands.items
    c.in-Some.command _ (rw left at c.loop-step.invariant)

pub loop-step-preserved : goal.loop-step-preserved
loop-step-preserved c =
    let left = at-step c.args.steps c.loop-step.step-index c.step-item.result in
    elim c.match-step.branch [
      | in-Some+in_ok-carry_out w ↦ rw (w.service-is, w.commands-is)
          (going-more c.args.service.now c.loop-step.service c.args.address (done_in c.args.steps) c.args.commands.now.items c.loop-step.commands.items
          w.in-Some.command _ (rw (left (Some w.in-Some.command) (omega (arith, c.loop-step-test.true)) w.in-Some.is) at c.loop-step.invariant) w.carry_out.new.service w.carry_out.new.commands.items
          w.in_ok-carry_out.ensures.done w.in_ok-carry_out.ensures.noted)
      | in_default w ↦ rw (w.service-is, w.commands-is, ← left None (omega (arith, c.loop-step-test.true)) w.in_default.is) c.loop-step.invariant
    ]

pub returns : goal.returns
returns c =
    let ended = drop_all c.loop-step.step-index c.args.steps (omega arith) in
    let whole = going-all c.args.service.now c.loop-step.service c.args.address (done_in c.args.steps) c.args.commands.now.items c.loop-step.commands.items
    (rw ended at c.loop-step.invariant) in
    record { noted = whole.0; done = whole.1 }
