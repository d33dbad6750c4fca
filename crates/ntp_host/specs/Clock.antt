-- What a clock shows, as a moment.
use Rattle.std.specs.Prelude.{ℕ, pos, ◌/◌, ◌%◌}
use Rattle.ntp_packet.specs.{declared.moment.Moment.Moment, Unix.second_nanos, Unix.IsUnixTime}

-- a moment is that of a count of nanoseconds from 1970-01-01 at 00:00 UTC (RFC 5905, 6)
abbrev pub IsMomentOf : Moment → ℕ → Type 0
IsMomentOf m nanos = IsUnixTime m (pos (nanos / second_nanos)) (nanos % second_nanos)

-- what a clock reads as that cannot be read: stamp 0 of era 0
abbrev pub unread : Moment
unread = record { era = 0; stamp = record { 0 = 0 } }
