-- Moments, from the count of Unix.
use Rattle.std.specs.Prelude.{◌≡◌, ℕ, ℤ, pos, ◌*◌, ◌/◌, ◌^◌, ◌+ℤ◌, ◌*ℤ◌}
use Rattle.ntp_packet.specs.{declared.moment.Moment.Moment, Moment.units}

-- the second of era 0 that is 1970-01-01 at 00:00 UTC, from which Unix counts (RFC 5905, 6)
abbrev pub unix_epoch : ℕ
unix_epoch = 2208988800

-- how many seconds the eras from 0 to 2^32 - 1 last (RFC 5905, 6)
abbrev pub all_seconds : ℕ
all_seconds = 2 ^ 64

-- how many nanoseconds a second has
abbrev pub second_nanos : ℕ
second_nanos = 1000000000

-- the seconds from 1900 to a count of seconds from 1970 (RFC 5905, 6)
abbrev pub since_1900 : ℤ → ℤ
since_1900 seconds = seconds +ℤ pos unix_epoch

-- the units of 2^-32 seconds in a number of nanoseconds, rounded down (RFC 5905, 6; rounded down: profile)
abbrev pub fraction_of : ℕ → ℕ
fraction_of nanos = nanos * 2 ^ 32 / second_nanos

-- a moment is that of a count of seconds from 1970 and of nanoseconds in the second (RFC 5905, 6)
abbrev pub IsUnixTime : Moment → ℤ → ℕ → Type 0
IsUnixTime moment seconds nanos = pos (units moment) ≡ since_1900 seconds *ℤ pos (2 ^ 32) +ℤ pos (fraction_of nanos)
