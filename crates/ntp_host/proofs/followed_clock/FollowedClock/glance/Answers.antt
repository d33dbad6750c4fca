use Rattle.std.proofs.Common.{◌∙◌, ◌∷◌, [], refl}
use Rattle.ntp_host.specs.Following.{Looks}
use Rattle.ntp_host.proofs.Following.{Follows-quiet}
use Rattle.ntp_host.proofs.followed_clock.FollowedClock.glance.Goals as goal

pub returns-clause-follows : goal.returns-clause-follows
returns-clause-follows g c = Follows-quiet (Looks c.in-Some.now ∷ []) _ _ _ _ refl refl c.look.ensures.follower (c.look.ensures.told ∙ c.reading.ensures.told)
