use Rattle.std.proofs.Common.{rules, arith}
use Rattle.labntp_jobs.proofs.Meetings.{HasMet-none, HasMet-more}
use Rattle.labntp_jobs.proofs.meeting.meet.Goals as goal

pub loop-turn-init : goal.loop-turn-init
loop-turn-init g c = record { failures = search rules; met = HasMet-none _ }

pub loop-turn-preserved : goal.loop-turn-preserved
loop-turn-preserved g c =
    record {
      failures = omega (arith, c.loop-turn.invariant.failures, c.meet.ensures);
      met = HasMet-more _ _ _ _ c.in-Some-meet.taken c.loop-turn.invariant.met (search rules);
    }
