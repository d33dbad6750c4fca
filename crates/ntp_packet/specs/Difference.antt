-- Differences of stamps, and the moment of a stamp near another moment.
use Rattle.std.specs.Prelude.{◌≡◌, ℤ, pos, ◌+◌, ◌-◌, ◌%◌, ◌^◌, ◌+ℤ◌, ◌-ℤ◌, ◌*ℤ◌, FitsSigned}
use Rattle.std.specs.Int.{w64, cast_signed}
use Rattle.ntp_packet.specs.{declared.stamp.Stamp.Stamp, declared.moment.Moment.Moment, Moment.units}

-- one stamp minus another, modulo 2^64 and read as a signed number (RFC 5905, 6)
unfoldable pub difference : Stamp → Stamp → ℤ
difference a b = cast_signed w64 ((a.0 + (2 ^ 64 - b.0)) % 2 ^ 64)

-- a number from -2^63 to 2^63 - 1 that equals one stamp minus another, but for whole eras (RFC 5905, 6)
pub record IsDifference (a b : Stamp) (d : ℤ) : Type 0 where
  pub signed : FitsSigned w64 d
  pub eras : ℤ
  pub same : d ≡ pos a.0 -ℤ pos b.0 +ℤ eras *ℤ pos (2 ^ 64)

-- the units from 1900 to the moment near another that has a stamp, if there is one in an era from 0 to 2^32 - 1 (RFC 5905, 6)
abbrev pub units_near : Stamp → Moment → ℤ
units_near stamp pivot = pos (units pivot) +ℤ difference stamp pivot.stamp
