use Rattle.std.specs.Prelude.{None}
use Rattle.labntp_jobs.proofs.Answering.{one-fails}
use Rattle.labntp_jobs.proofs.meeting.Pair.meet.Goals as goal

pub returns : goal.returns
returns g c =
    one-fails _ _ _ _ _ _ (g.P.Port.counts c.args.self.now.port) _ _ _ _ _
    (c.answer_received-outcome.ensures.makes None tt) c.in_ok-received.ensures.counts.1

pub returns-then-not-matches : goal.returns-then-not-matches
returns-then-not-matches g c =
    one-fails _ _ _ _ _ _ (g.P.Port.counts c.args.self.now.port) _ _ _ _ _
    (c.answer_received-outcome.ensures.makes None tt) c.in_ok-received.ensures.counts.1

pub returns-in_err-length : goal.returns-in_err-length
returns-in_err-length g c =
    one-fails _ _ _ _ _ _ (g.P.Port.counts c.args.self.now.port) _ _ _ _ _
    (c.answer_received-outcome.ensures.makes None tt) c.in_ok-received.ensures.counts.1
