-- Whether the host's clock was set, and whether the daemon shows an update since.
use Rattle.std.specs.Prelude.{pos, ◌*◌, ◌^◌, Bool, true, false, not, ◌&&◌, ◌==◌, nat_lt, int_le, Option, Some, None}
use Rattle.ntp_packet.specs.{declared.stamp.Stamp.Stamp, Difference.difference, Header.no_stamp}
use Rattle.ntp_client.specs.{declared.reading.Reading.Reading, declared.watch.ClockWatch.ClockWatch, Reading.apart}

-- at a start nothing was seen, and the daemon told no reference time (profile)
abbrev pub new_watch : ClockWatch
new_watch = record { seen = None; set = None; told = Some no_stamp }

-- a reading shows that the host's clock was set since it showed another: by more than a thousandth of a second (profile)
abbrev pub is_set_since : Option Reading → Reading → Bool
is_set_since None now = false
is_set_since (Some seen) now = nat_lt (10 ^ 6 * 2 ^ 32) (apart seen now)

-- what is known once a reading has shown that: the daemon has told nothing since (profile)
abbrev pub after_set : Reading → ClockWatch
after_set now = record { seen = Some now; set = Some now; told = None }

-- a reference time is another one than the daemon told since the clock was set; there is none where it told nothing (profile)
abbrev pub is_another : Option Stamp → Stamp → Bool
is_another None reference = false
is_another (Some told) reference = not (reference.0 == told.0)

-- a reference time is not before what the host's clock showed when it was seen to be set (profile)
abbrev pub is_behind : Option Reading → Stamp → Bool
is_behind None reference = true
is_behind (Some set) reference = int_le (pos 0) (difference reference set.clock.stamp)

-- an answer with this reference time, which was sent then, shows that the daemon has updated its clock since the host's was set: its
-- reference time is known, is another one than the daemon told since, lies behind the setting and not behind the answer (RFC 5905, 7.3
-- and A.5.1.1; behind a setting: profile)
abbrev pub shows_update : ClockWatch → Stamp → Stamp → Bool
shows_update w reference sent =
    not (reference.0 == 0) && is_another w.told reference && is_behind w.set reference && int_le (difference reference sent) (pos 0)
