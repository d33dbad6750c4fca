use Rattle.std.proofs.Common.{◌≡◌, ◌∙◌, [], ap, refl, subst}
use Rattle.std.proofs.lemmas.Bool.{false≢true}
use Rattle.std.specs.Prelude.{IsSome}
use Rattle.ntp_host.proofs.Following.{Follows-append, Follows-quiet, Follows-took, Follows-dropped}
use Rattle.ntp_host.proofs.followed_clock.FollowedClock.take_answers.Goals as goal
use Rattle.ntp_host.proofs.followed_clock.FollowedClock.take_answers.Goals.{in-Sample, in-Refused-Unsynchronised, in-Rate}

pub returns-in_default-reading : goal.returns-in_default-reading
returns-in_default-reading g c =
    Follows-append _ _ _ _ _ _ c.loop.invariant (Follows-dropped _ _ _ _ _ _ refl c.in-Some.ensures.received
    (λ reads. false≢true (subst IsSome c.in_default-reading.is (c.reading.ensures.read reads))) c.reading.ensures.told)

pub loop-preserved : goal.loop-preserved
loop-preserved g c = Follows-append _ _ _ _ _ _ c.loop.invariant (Follows-took _ _ _ _ c.in-Some-reading.now _ _ _ _ c.look.ensures.follower
    c.take.ensures.taken c.take.ensures.took c.in-Some.ensures.received (c.look.ensures.told ∙ c.reading.ensures.told))

pub returns-in-loop : goal.returns-in-loop
returns-in-loop g c =
    let received = g.W.ClockWire.clock_told in
    let kept : (c.match-take.self.follower ≡ c.take.new.self) × (received c.match-take.self.wire ≡ received c.look.new.self.wire) =
    elim c.match-take.branch [
      | in-Sample w ↦ (ap (λ s. s.follower) w.self-is, ap (λ s. received s.wire) w.self-is)
      | in-Refused-Unsynchronised w ↦ (ap (λ s. s.follower) w.self-is, ap (λ s. received s.wire) w.self-is)
      | in-Rate w ↦ (ap (λ s. s.follower) w.self-is, ap (λ s. received s.wire) w.self-is)
    ] in Follows-append _ _ _ _ _ _ c.loop.invariant (Follows-append _ _ _ _ _ _
    (Follows-took _ _ _ _ c.in-Some-reading.now _ _ _ _ c.look.ensures.follower c.take.ensures.taken c.take.ensures.took
    c.in-Some.ensures.received (c.look.ensures.told ∙ c.reading.ensures.told))
    (Follows-quiet [] _ _ _ _ refl refl (c.expect.ensures.follower ∙ kept.0) (c.expect.ensures.told ∙ kept.1)))
