use Rattle.std.proofs.Common.{refl, ◌∙◌, []}
use Rattle.ntp_host.proofs.Following.{Follows-append, Follows-quiet}
use Rattle.ntp_host.proofs.followed_clock.ClockSourceReferenceSource.tend.Goals as goal

pub returns-in-Followed : goal.returns-in-Followed
returns-in-Followed g c = rw c.in-Followed.is (Follows-append _ _ _ _ _ _
    (Follows-quiet [] _ _ _ _ refl refl refl (c.clock-clock.ensures.told ∙ c.ticks-ticks.ensures))
    (Follows-append _ _ _ _ _ _ c.glance.ensures.follows c.exchange.ensures))
