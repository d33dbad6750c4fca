use Rattle.std.proofs.Common.{length}
use Rattle.ntp_service.specs.InTurn.{InTurn}
use Rattle.ntp_admin.proofs.LinesApplied.{Applied}
use Rattle.ntp_admin.proofs.commands.carry_out_lines.Given as goal

abbrev pub invariant-loop-line : goal.invariant-loop-line
invariant-loop-line g l =
    Applied g.row.A.Denot l.most l.before l.fn.service l.octets l.rest l.number l.service (InTurn g.O.Observer.heard l.fn.observer l.observer)

abbrev pub decreases-loop-line : goal.decreases-loop-line
decreases-loop-line g l = length l.rest
