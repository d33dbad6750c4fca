-- How the clock that a configuration names becomes the source of its state.
use Rattle.std.specs.Prelude.{◌≡◌, ℕ, List, IsSomeAnd}
use Rattle.std.specs.Int.NonZero.{non_zero_u16_get}
use Rattle.ntp_client.specs.{declared.limits.ClockLimits.ClockLimits, Learning.new_follower}
use Rattle.ntp_host.specs.declared.followed_clock.ClockSource.{ClockSource}
use Rattle.ntp_host.specs.declared.followed_clock.ClockSource.TheVariants as source
use Rattle.labntpd_files.specs.{KeyText.key_in_file, declared.configuration.Clock.Clock, declared.configuration.ClockDaemon.ClockDaemon}
use Rattle.labntpd_files.specs.declared.configuration.Clock.TheVariants as clock
use Rattle.labntpd_start.specs.declared.prepared.PreparedClock.{PreparedClock}
use Rattle.labntpd_start.specs.declared.prepared.PreparedClock.TheVariants as prepared

-- the limits that a configuration sets to what the clock's daemon answers
abbrev pub limits_of : ClockDaemon → ClockLimits
limits_of daemon = record {
  valid_for = daemon.valid_for;
  most_root_distance = record { 0 = daemon.most_root_distance };
  most_reference_age = daemon.most_reference_age;
  most_step = daemon.most_step;
}

-- what is prepared of the clock that a configuration names: its state, or where its daemon answers, with a follower by the key of a text and
-- these limits
abbrev pub IsClockOf : Clock → PreparedClock → Type 0
IsClockOf (clock.Fixed state) made = made ≡ prepared.Fixed state
IsClockOf (clock.Followed daemon) made = (text : List ℕ) × IsSomeAnd (key_in_file text daemon.algorithm)
    (λ key. made ≡ prepared.Followed daemon.source (new_follower key (non_zero_u16_get daemon.number) (limits_of daemon)))

-- the source of the clock's state that is made of it
abbrev pub IsSourceOf : {W : Type 0} → PreparedClock → ClockSource W → Type 0
IsSourceOf (prepared.Fixed state) made = made ≡ source.Fixed state
IsSourceOf (prepared.Followed at follower) (source.Followed followed) = followed.follower ≡ follower
IsSourceOf (prepared.Followed at follower) (source.Fixed state) = ⊥
