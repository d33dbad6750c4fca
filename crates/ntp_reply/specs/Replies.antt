-- The headers of replies, and the octets of a signed one.
use Rattle.std.specs.Prelude.{◌≢◌, ℕ, List, [], ◌∷◌, ◌++◌, ◌==◌, if◌then◌else◌, Option, Some, None}
use Rattle.ntp_packet.specs.{declared.stamp.Stamp.Stamp, declared.moment.Moment.Moment, Fresh.fresh}
use Rattle.ntp_packet.specs.{declared.clock_fields.ClockFields.ClockFields, Kiss.rate_code, Kiss.deny_code}
use Rattle.ntp_customer.specs.{declared.slot.Slot.Slot, Exchanges.receives, Exchanges.all_stamps}
use Rattle.ntp_packet.specs.Header.{HeaderFields, blank_clock, blank_header, header_octets}
use Rattle.ntp_mac.specs.{Key.SymmetricKey, Mac.mac_of}
use Rattle.ntp_reply.specs.{Reference.ReferenceState, declared.occasion.Occasion.Occasion, declared.occasion.NewStamps.NewStamps}
use Rattle.ntp_reply.specs.{declared.kiss.Kiss.Kiss, declared.kiss.Kiss.TheVariants.Rate, declared.kiss.Kiss.TheVariants.Deny}

-- the occasion of these: when a datagram came, the transmit moment of the reply to it, and the state of the clock (profile)
abbrev pub occasion_of : Moment → Moment → ReferenceState → Occasion
occasion_of receipt transmit reference = record { receipt = receipt; transmit = transmit; reference = reference }

-- the new stamps of a reply, where these exchanges are saved: the receive stamp avoids all their stamps, the transmit stamp their receive
-- stamps and the new one (profile)
abbrev pub new_stamps : Occasion → List Slot → NewStamps
new_stamps o saved =
    let receive = fresh o.receipt.stamp (all_stamps saved) in
    record { receive = receive; transmit = fresh o.transmit.stamp (receives saved ++ receive ∷ []) }

-- the stratum in a packet: 0 where the clock is unsynchronised (RFC 5905, 7.3)
abbrev pub shown_stratum : ReferenceState → ℕ
shown_stratum r = if r.stratum == 16 then 0 else r.stratum

-- the identifier in a packet: none where the stratum is 0, since it would be read as a kiss code (RFC 5905, 7.4; profile)
abbrev pub shown_id : ReferenceState → List ℕ
shown_id r = if r.stratum == 16 then 0 ∷ 0 ∷ 0 ∷ 0 ∷ [] else r.reference_id

-- a state as a packet tells it (RFC 5905, 7.3, 7.4; profile)
abbrev pub shown : ReferenceState → ClockFields
shown r = record r { stratum = shown_stratum r; reference_id = shown_id r }

-- the header of a time reply and of a crypto-NAK, with this origin and these stamps (RFC 5905, 9.2)
abbrev pub reply_fields : ReferenceState → HeaderFields → Stamp → Stamp → Stamp → HeaderFields
reply_fields reference request origin receive transmit = record {
  version = request.version;
  mode = 4;
  poll = request.poll;
  clock = shown reference;
  origin = origin;
  receive = receive;
  transmit = transmit;
}

-- the basic one: its origin is the request's transmit stamp (RFC 5905, 9.2), and both other stamps are new (profile)
abbrev pub basic_fields : Occasion → HeaderFields → NewStamps → HeaderFields
basic_fields o request stamps = reply_fields o.reference request request.transmit stamps.receive stamps.transmit

-- the header of a time reply: interleaved with an exchange that was matched, whose transmit stamp it has, with the request's receive stamp
-- as its origin (profile, after RFC 9769); else basic
abbrev pub time_fields : Occasion → HeaderFields → Option Slot → NewStamps → HeaderFields
time_fields o request None stamps = basic_fields o request stamps
time_fields o request (Some matched) stamps = reply_fields o.reference request request.receive stamps.receive matched.transmit

-- the code of a kiss (RFC 5905, 7.4)
abbrev pub kiss_code : Kiss → List ℕ
kiss_code Rate = rate_code
kiss_code Deny = deny_code

-- the transmit stamp of a kiss: the request's, but 1 in the place of 0, so that no client takes it for none (profile)
abbrev pub kiss_transmit : Stamp → Stamp
kiss_transmit transmit = if transmit.0 == 0 then record { 0 = 1 } else transmit

-- the header of a kiss-o'-death (RFC 5905, 7.4; the fields that it leaves open: profile)
abbrev pub kiss_fields : Kiss → HeaderFields → HeaderFields
kiss_fields kiss request = record (blank_header request.version 4) {
  poll = request.poll;
  clock = record blank_clock { leap = 3; reference_id = kiss_code kiss };
  origin = request.transmit;
  transmit = kiss_transmit request.transmit;
}

-- a signed reply: the octets of its header, and behind them the MAC of a key and its number (RFC 5905, 7.3; with SHA-1: profile)
abbrev pub sealed : SymmetricKey → ℕ → HeaderFields → List ℕ
sealed key number fields = header_octets fields ++ mac_of key number (header_octets fields)

-- the receive and the transmit stamp differ, and the transmit stamp is not 0 (profile, after RFC 9769)
abbrev pub HasDistinctStamps : HeaderFields → Type 0
HasDistinctStamps h = (h.receive ≢ h.transmit) × (h.transmit.0 ≢ 0)
