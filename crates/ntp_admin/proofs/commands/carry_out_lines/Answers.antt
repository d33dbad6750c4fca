use Rattle.std.proofs.Common.{arith, refl}
use Rattle.ntp_admin.proofs.LinesApplied.{Applied-none, Applied-more, Applied-count, Applied-lines}
use Rattle.ntp_admin.proofs.commands.carry_out_lines.Goals as goal

pub loop-line-init : goal.loop-line-init
loop-line-init g c = Applied-none _ _ _ _ _ _ (omega arith) refl

pub loop-line-preserved : goal.loop-line-preserved
loop-line-preserved g c =
    Applied-more _ _ c.args.most c.args.before _ _ _ _ _ _ c.args.octets.now c.loop-line.rest.now c.in-Some.line.now c.in-Some.others.now _ _
    (omega arith) c.loop-line.invariant c.in-Some.ensures.cut c.saturating_add-number.ensures c.carry_out_line.ensures

pub returns-clause-count : goal.returns-clause-count
returns-clause-count g c = Applied-count _ _ _ _ _ _ _ _ _ c.loop-line.invariant c.in_default.ensures.cut

pub returns-clause-lines : goal.returns-clause-lines
returns-clause-lines g c = Applied-lines _ _ _ _ _ _ _ _ _ c.loop-line.invariant c.in_default.ensures.cut
