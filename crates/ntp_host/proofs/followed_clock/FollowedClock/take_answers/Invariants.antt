use Rattle.ntp_host.specs.Following.{Follows}
use Rattle.ntp_host.proofs.followed_clock.FollowedClock.take_answers.Given as goal

abbrev pub invariant-loop : goal.invariant-loop
invariant-loop g l =
    Follows l.fn.self.follower l.self.follower (g.W.ClockWire.clock_told l.fn.self.wire) (g.W.ClockWire.clock_told l.self.wire)
