use Rattle.std.proofs.Common.{inl, refl}
use Rattle.ntp_port.proofs.Looking.{Looks-count, Looks-unseen}
use Rattle.ntp_port.proofs.fresh_port.FreshPort.look_whether_empty.Goals as goal

pub returns-then-is_empty-clause-looks : goal.returns-then-is_empty-clause-looks
returns-then-is_empty-clause-looks g c =
    Looks-count _ _ _ _ 0 c.is_empty.ensures.turns c.saw.ensures.longest (inl refl) c.saw.ensures.watches c.saw.ensures.counts
    c.if-is_empty.ensures.history

pub returns-else-is_empty-clause-looks : goal.returns-else-is_empty-clause-looks
returns-else-is_empty-clause-looks g c = Looks-unseen _ _ _ c.is_empty.ensures.turns c.if-is_empty.ensures.history
