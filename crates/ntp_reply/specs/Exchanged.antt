-- Exchanges: which one a request asks about, and what a time reply and a departure leave of them.
use Rattle.std.specs.Prelude.{Bool, List, [], ◌∷◌, ◌++◌, ◌==◌, if◌then◌else◌, Option, None, is_some}
use Rattle.ntp_packet.specs.{declared.stamp.Stamp.Stamp, declared.moment.Moment.Moment, Header.HeaderFields}
use Rattle.ntp_customer.specs.{declared.slot.Slot.Slot, Customer.exchanges_of, Customer.with_saved, Past.Past}
use Rattle.ntp_customer.specs.Exchanges.{with_recent, new_exchange, unused_at, spent, with_departure}
use Rattle.ntp_reply.specs.{declared.occasion.Occasion.Occasion, declared.occasion.NewStamps.NewStamps, Replies.new_stamps}
use Rattle.ntp_reply.specs.Life.{recent_of}

-- the saved exchange that a request asks about: the unused one whose receive stamp is the request's origin, where the request's
-- receive and transmit stamps differ. There is at most one (profile, after RFC 9769)
abbrev pub matched : List Slot → HeaderFields → Option Slot
matched saved request = if request.receive.0 == request.transmit.0 then None else unused_at saved request.origin

-- the saved exchanges with that one marked used (profile, after RFC 9769)
abbrev pub with_match_used : List Slot → HeaderFields → List Slot
with_match_used saved request = if is_some (matched saved request) then spent saved request.origin else saved

-- the new stamps of a reply on an occasion, beside the recent exchanges (profile)
abbrev pub stamps_of : Past → Occasion → NewStamps
stamps_of past o = new_stamps o (recent_of past)

-- the past after a time reply: the exchange that was asked about is used, and there is a new one (profile, after RFC 9769)
abbrev pub after_time : Past → Occasion → HeaderFields → Past
after_time past o request =
    let new = new_exchange (stamps_of past o).receive (stamps_of past o).transmit in
    with_saved past (with_recent (exchanges_of past) (with_match_used (recent_of past) request) ++ new ∷ [])

-- whether a departure is noted: a recent exchange that is unused has this receive stamp (profile, after RFC 9769)
abbrev pub is_noted : Past → Stamp → Bool
is_noted past receive = is_some (unused_at (recent_of past) receive)

-- the past after a departure: that exchange has its transmit stamp (profile, after RFC 9769)
abbrev pub after_departure : Past → Stamp → Moment → Past
after_departure past receive m = with_saved past (with_recent (exchanges_of past) (with_departure (recent_of past) receive m))
