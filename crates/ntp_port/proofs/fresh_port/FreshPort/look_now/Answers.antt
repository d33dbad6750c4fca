use Rattle.ntp_port.proofs.Looking.{Looks-more}
use Rattle.ntp_port.proofs.fresh_port.FreshPort.look_now.Goals as goal

pub returns-clause-looks : goal.returns-clause-looks
returns-clause-looks g c = Looks-more _ _ _ 0 c.look_whether_empty.ensures.looks c.look_how_many.ensures.looks
