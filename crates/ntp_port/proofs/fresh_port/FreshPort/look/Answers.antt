use Rattle.std.proofs.Common.{arith}
use Rattle.ntp_port.proofs.Looking.{Looks-early, Looks-in_time}
use Rattle.ntp_port.proofs.fresh_port.FreshPort.look.Goals as goal

pub returns-then-self-clause-looks : goal.returns-then-self-clause-looks
returns-then-self-clause-looks g c =
    let looks = c.look_where_due.ensures.looks in
    Looks-in_time _ _ _ looks c.look_where_due.ensures.counted (omega (arith, looks.reading, c.saturating_add-self.ensures))

pub returns-else-self-clause-looks : goal.returns-else-self-clause-looks
returns-else-self-clause-looks g c = Looks-early _ (omega arith)
