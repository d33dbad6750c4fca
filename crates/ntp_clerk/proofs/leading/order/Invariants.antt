use Rattle.std.proofs.Common.{drop}
use Rattle.ntp_clerk.specs.Steps.{done_in}
use Rattle.ntp_clerk.proofs.Doing.{Going}
use Rattle.ntp_clerk.proofs.leading.order.Given as goal

abbrev pub invariant-loop-step : goal.invariant-loop-step
invariant-loop-step l = Going l.initial.service l.fn.address (done_in l.step-items) l.initial.commands.items l.commands.items
    (done_in (drop l.step-index l.step-items)) l.service
