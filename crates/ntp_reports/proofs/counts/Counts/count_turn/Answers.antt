use Rattle.std.proofs.Common.{◌≡◌, [], sym, ap, rules}
use Rattle.ntp_reports.specs.Kinds.{sending_kinds}
use Rattle.ntp_reports.proofs.Adding.{counted-answer, Adds-none}
use Rattle.ntp_reports.proofs.counts.Counts.count_turn.Goals as goal

pub returns-in-Answered : goal.returns-in-Answered
returns-in-Answered c =
    let none : [] ≡ sending_kinds c.in-Answered.sending = search rules in
    rw c.in-Answered.is (counted-answer _ _ _ _ _ _ _ [] c.answer_kind.ensures none c.add-in-Answered.ensures (Adds-none _))

pub returns-in-NotSent : goal.returns-in-NotSent
returns-in-NotSent c =
    rw c.in-Answered.is (counted-answer _ _ _ _ _ _ _ _ c.answer_kind.ensures (sym (ap sending_kinds c.in-NotSent.is)) c.add-in-Answered.ensures
    c.add-in-NotSent.ensures)

pub returns-in-Noted : goal.returns-in-Noted
returns-in-Noted c =
    rw c.in-Answered.is (counted-answer _ _ _ _ _ _ _ _ c.answer_kind.ensures (sym (ap sending_kinds c.in-Noted.is)) c.add-in-Answered.ensures
    c.add-in-Noted.ensures)
