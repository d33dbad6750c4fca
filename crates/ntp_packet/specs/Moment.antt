-- Moments, counted in units of 2^-32 seconds.
use Rattle.std.specs.Prelude.{ℕ, ◌+◌, ◌*◌, ◌/◌, ◌^◌}
use Rattle.ntp_packet.specs.declared.moment.Moment.{Moment}

-- the units from 1900 to a moment, whose era has 2^64 of them (RFC 5905, 6)
abbrev pub units : Moment → ℕ
units m = m.era * 2 ^ 64 + m.stamp.0

-- how many seconds a window lasts (profile)
abbrev pub window_seconds : ℕ
window_seconds = 64

-- the window of a moment: its whole seconds since 1900, divided by those of a window and rounded down (profile)
abbrev pub window_of : Moment → ℕ
window_of m = units m / 2 ^ 32 / window_seconds
