-- Readings of the host's clocks.
use Rattle.std.specs.Prelude.{ℕ, pos, ◌^◌, ◌-ℤ◌, ◌*ℤ◌, unsigned_abs}
use Rattle.ntp_packet.specs.Difference.{difference}
use Rattle.ntp_client.specs.declared.reading.Reading.{Reading}

-- how far the host's clock has gone apart from the ticks between two readings, in units of 2^-32 nanoseconds: the two are slewed
-- together, so that this is how far the clock was set meanwhile (profile)
abbrev pub apart : Reading → Reading → ℕ
apart a b = unsigned_abs (difference b.clock.stamp a.clock.stamp *ℤ pos (10 ^ 9) -ℤ (pos b.ticks -ℤ pos a.ticks) *ℤ pos (2 ^ 32))
