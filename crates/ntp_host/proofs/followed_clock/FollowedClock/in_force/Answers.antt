use Rattle.ntp_host.proofs.Following.{Follows-append, asks-with}
use Rattle.ntp_host.proofs.followed_clock.FollowedClock.in_force.Goals as goal

pub returns : goal.returns
returns g c = asks-with _ _ _ _ _ c.in-Some.clock c.last_ticks-ticks.result c.glance-now.result _ c.in-Some.is
    (Follows-append _ _ _ _ _ _ c.glance-now.ensures.follows c.exchange-2.ensures) c.in_force.ensures c.glance-now.ensures.kept
