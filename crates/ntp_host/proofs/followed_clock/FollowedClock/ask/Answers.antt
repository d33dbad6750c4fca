use Rattle.std.proofs.Common.{ap, ◌∙◌, ◌∷◌, [], refl}
use Rattle.ntp_client.specs.Learning.{asked}
use Rattle.ntp_host.specs.Following.{Asks}
use Rattle.ntp_host.proofs.Following.{Follows-append, Follows-quiet}
use Rattle.ntp_host.proofs.followed_clock.FollowedClock.ask.Goals as goal

pub returns-in-Some : goal.returns-in-Some
returns-in-Some g c = Follows-append _ _ _ _ _ _ c.take_answers.ensures (Follows-quiet (Asks c.in-Some.now ∷ []) _ _ _ _ refl refl
    (c.expect-in-Some.ensures.follower ∙ (c.request-request.ensures.asked ∙ ap (λ p. asked p c.in-Some.now) c.expect.ensures.follower))
    (c.expect-in-Some.ensures.told ∙ c.send-is_sent.ensures ∙ c.reading.ensures.told ∙ c.expect.ensures.told))
