use Rattle.std.proofs.Common.{◌≤◌}
use Rattle.ntp_port.specs.Port.{failed_calls}
use Rattle.labntp_jobs.specs.Taken.{HasMet}
use Rattle.labntp_jobs.proofs.meeting.meet.Given as goal

abbrev pub invariant-loop-turn : goal.invariant-loop-turn
invariant-loop-turn g l = record {
  failures : failed_calls l.pair.port.counts ≤ l._turn;
  met : HasMet l._turn (g.W.Write.contents l.fn.out) (g.W.Write.contents l.out);
}
