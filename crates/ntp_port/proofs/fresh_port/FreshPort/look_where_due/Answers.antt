use Rattle.std.proofs.Common.{arith}
use Rattle.ntp_port.proofs.Looking.{Looks-known, Looks-older}
use Rattle.ntp_port.proofs.fresh_port.FreshPort.look_where_due.Goals as goal

pub returns-then-is_due-clause-looks : goal.returns-then-is_due-clause-looks
returns-then-is_due-clause-looks g c = Looks-older _ _ 0 _ (omega arith) c.look_now.ensures.looks

pub returns-else-is_due-clause-looks : goal.returns-else-is_due-clause-looks
returns-else-is_due-clause-looks g c = Looks-known _ _ (c.is_due.ensures.0 c.if-is_due.false)
