-- The reference state that replies tell, by the last answer of the host's clock daemon.
use Rattle.std.specs.Prelude.{ℕ, ℤ, pos, neg_ℤ, ◌+◌, ◌-◌, ◌*◌, ◌^◌, ◌*ℤ◌, min, unsigned_abs, Bool, false, true, not, ◌&&◌, ◌==◌, nat_lt, nat_le, int_le, if◌then◌else◌, Option, Some, None, is_none}
use Rattle.std.specs.{Option.option_map_or, Int.div_ceil}
use Rattle.ntp_packet.specs.{declared.moment.Moment.Moment, Moment.units, Difference.difference, Header.blank_clock}
use Rattle.ntp_reply.specs.Reference.{ReferenceState}
use Rattle.ntp_client.specs.{declared.answer.ClockAnswer.ClockAnswer, declared.doubt.Doubt.Doubt}
use Rattle.ntp_client.specs.{declared.limits.ClockLimits.ClockLimits, declared.reading.Reading.Reading, Reading.apart}
use Rattle.ntp_client.specs.Taking.{is_synchronised}
use Rattle.ntp_client.specs.declared.doubt.Doubt.TheVariants.{Old, Unsynchronised, ReferenceOld, ReferenceAhead, Far, Set}

-- the state of an unsynchronised clock: leap 3, stratum 16 and the greatest dispersion, 16 seconds (RFC 5905, 7.2, 7.3; its precision
-- of 2^-20 seconds: profile)
abbrev pub unsynchronised : ReferenceState
unsynchronised = record blank_clock { leap = 3; stratum = 16; precision = neg_ℤ (pos 20); root_dispersion = record { 0 = 16 * 2 ^ 16 } }

-- a moment is one that the host's clock showed: the first one of era 0 stands for a clock that could not be read (profile)
abbrev pub is_read : Moment → Bool
is_read clock = not (units clock == 0)

-- the state that is told in a turn with this receipt: where the clock could not be read for it, that of an unsynchronised one
-- (profile)
abbrev pub told_with : Option Moment → ReferenceState → ReferenceState
told_with None state = state
told_with (Some receipt) state = if is_read receipt then state else unsynchronised

-- how long ago the question of an answer left, in nanoseconds (profile)
abbrev pub age : ClockAnswer → ℕ → ℕ
age a ticks = ticks - a.ticks

-- the size of an answer's offset, in units of 2^-16 seconds and rounded up (profile)
abbrev pub offset_size : ClockAnswer → ℕ
offset_size a = div_ceil (unsigned_abs a.offset_twice) (2 ^ 17)

-- how far a clock may drift in `nanos` nanoseconds: 15 parts in a million of them, in units of 2^-16 seconds and rounded up
-- (RFC 5905, 7.2; rounded up: profile)
unfoldable pub drift : ℕ → ℕ
drift nanos = div_ceil (nanos * 15 * 2 ^ 16) (10 ^ 15)

-- how far the host's clock was set since the daemon last showed an update, in units of 2^-16 seconds and rounded up (profile)
abbrev pub set_by : ClockAnswer → Reading → ℕ
set_by a now = div_ceil (apart a.base now) (2 ^ 16 * 10 ^ 9)

-- the root dispersion some time after an answer: that of the answer has grown by the size of the offset, by the drift and by how far the
-- clock was set, to the most that a packet can tell (RFC 5905, 11.2; set, to the most: profile)
abbrev pub dispersion : ClockAnswer → Reading → ℕ
dispersion a now = min (2 ^ 32 - 1) (a.state.root_dispersion.0 + offset_size a + drift (age a now.ticks) + set_by a now)

-- the precision that is told of the host's clock is never better than 2^-16 seconds (profile)
unfoldable pub precision_told : ℤ → ℤ
precision_told p = if int_le p (neg_ℤ (pos 16)) then neg_ℤ (pos 16) else p

-- the state of an answer with that dispersion and precision (profile)
abbrev pub grown : ClockAnswer → Reading → ReferenceState
grown a now = record a.state { precision = precision_told a.state.precision; root_dispersion = record { 0 = dispersion a now } }

-- an answer is young (profile)
abbrev pub is_young : ClockLimits → ClockAnswer → Reading → Bool
is_young limits a now = nat_lt (age a now.ticks) limits.valid_for

-- how long ago the clock of an answer was set by the host's clock, in units of 2^-32 seconds (RFC 5905, 7.3; by the host's: profile)
abbrev pub reference_age : ClockAnswer → Reading → ℤ
reference_age a now = difference now.clock.stamp a.state.reference

-- its clock was set, and not longer ago than the limit, where there is one (profile)
abbrev pub was_set_lately : ClockLimits → ClockAnswer → Reading → Bool
was_set_lately limits a now =
    not (a.state.reference.0 == 0)
    && option_map_or (λ most. int_le (reference_age a now) (pos (most * 2 ^ 32))) limits.most_reference_age true

-- it does not say that its clock was set after it left: not by more than a step may be (RFC 5905, A.5.1.1; than a step: profile). Either
-- side counts in units of 2^-32 nanoseconds
abbrev pub is_past : ClockLimits → ClockAnswer → Bool
is_past limits a = int_le (difference a.state.reference a.sent *ℤ pos (10 ^ 9)) (pos (limits.most_step * 2 ^ 32))

-- twice its root distance by now, which is half the root delay and the root dispersion, in units of 2^-16 seconds (RFC 5905, 11.2)
abbrev pub root_distance_twice : ClockAnswer → Reading → ℕ
root_distance_twice a now = a.state.root_delay.0 + 2 * dispersion a now

-- its root distance by now is within the limit (RFC 5905, 11.2; the limit: profile)
abbrev pub is_near : ClockLimits → ClockAnswer → Reading → Bool
is_near limits a now = nat_le (root_distance_twice a now) (2 * limits.most_root_distance.0)

-- the host's clock was not set by more than a step may be, since the daemon last showed an update (profile). Either side counts in units
-- of 2^-32 nanoseconds
abbrev pub went_on : ClockLimits → ClockAnswer → Reading → Bool
went_on limits a now = nat_le (apart a.base now) (limits.most_step * 2 ^ 32)

-- why an answer is not believed, by a reading of the host's clocks: the first reason that applies, in this order; it is believed where none
-- does (profile)
abbrev pub doubt_of : ClockLimits → ClockAnswer → Reading → Option Doubt
doubt_of limits a now =
    if not (is_young limits a now) then Some Old
    else (if not (is_synchronised a.state.leap a.state.stratum) then Some Unsynchronised
    else (if not (was_set_lately limits a now) then Some ReferenceOld
    else (if not (is_past limits a) then Some ReferenceAhead
    else (if not (is_near limits a now) then Some Far
    else (if not (went_on limits a now) then Some Set else None)))))

-- an answer was learned, and is believed (profile)
abbrev pub is_followed : ClockLimits → Option ClockAnswer → Reading → Bool
is_followed limits None now = false
is_followed limits (Some a) now = is_none (doubt_of limits a now)

-- the state that replies tell: the grown one of an answer that is believed, or unsynchronised (profile)
abbrev pub in_force : ClockLimits → Option ClockAnswer → Reading → ReferenceState
in_force limits None now = unsynchronised
in_force limits (Some a) now = if is_none (doubt_of limits a now) then grown a now else unsynchronised
