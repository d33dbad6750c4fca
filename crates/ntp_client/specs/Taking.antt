-- What a client makes of octets that arrive.
use Rattle.std.specs.Prelude.{ℕ, List, Bool, not, ◌==◌, ◌&&◌, ◌||◌, nat_eq, nat_le, if◌then◌else◌, Option, None, ok_or, option_map, option_and_then, Result, Ok, Err}
use Rattle.std.specs.{Result.result_ok, Cmp.Lexicographic.pointwise}
use Rattle.ntp_packet.specs.{declared.moment.Moment.Moment, Header.HeaderFields, Kiss.rate_code, Kiss.deny_code}
use Rattle.ntp_packet.specs.Request.{RequestValue}
use Rattle.ntp_packet.specs.FirstCase.{◌>>=◌, ◌>>◌, provided, map_err, decided}
use Rattle.ntp_packet.specs.Tail.{TailValue, NoTail, BareTail, MacTail}
use Rattle.ntp_mac.specs.{Reading.reading_of, Signed.is_signed}
use Rattle.ntp_client.specs.{declared.pairing.Pairing.Pairing, declared.taken.Taken.Taken, State.ClientState}
use Rattle.ntp_client.specs.declared.taken.Taken.TheVariants as taken
use Rattle.ntp_client.specs.declared.taken.Distrust.TheVariants as distrust
use Rattle.ntp_client.specs.Pairing.{pairing_of, is_basic, exchange_of, sample_of}

-- whether a reply is a kiss-o'-death of this code, to this request (RFC 5905, 7.4; to this request: profile)
abbrev pub is_kiss : List ℕ → HeaderFields → Pairing → Bool
is_kiss code h pairing = (h.clock.stratum == 0) && pointwise nat_eq h.clock.reference_id code && is_basic pairing

-- whether a clock of this leap indicator and this stratum is synchronised (RFC 5905, 7.3)
abbrev pub is_synchronised : ℕ → ℕ → Bool
is_synchronised leap stratum = not (leap == 3) && nat_le 1 stratum && nat_le stratum 15

-- whether a stamp of a reply is that of unknown time (RFC 5905, 6)
abbrev pub lacks_stamp : HeaderFields → Bool
lacks_stamp h = (h.receive.0 == 0) || (h.transmit.0 == 0)

-- a reply has a MAC: without one it is the kiss DENY, or else refused; with a bare key number it is a crypto-NAK, or else refused
-- (RFC 5905, 7.4 and 8; profile)
abbrev pub with_mac : RequestValue → Pairing → TailValue → Result (Unit {0}) Taken
with_mac r pairing NoTail = Err (if is_kiss deny_code r.header pairing then taken.Deny else taken.Refused distrust.Unsigned)
with_mac r pairing (BareTail number) = Err (if (number == 0) && is_basic pairing then taken.Nak else taken.Refused distrust.Unsigned)
with_mac r pairing (MacTail number digest) = Ok tt

-- what a client takes octets for that arrive at a moment; the first case that applies decides (RFC 5905, 8; profile)
abbrev pub taken_for : ClientState → List ℕ → Moment → Taken
taken_for c octets at = decided do
  q ← ok_or c.outstanding (taken.Refused distrust.NothingAsked)
  r ← map_err (reading_of octets) (λ fault. taken.Refused (distrust.Malformed fault))
  provided (r.header.mode == 4) (taken.Refused distrust.Mode)
  provided (r.header.version == 4) (taken.Refused distrust.Version)
  pairing ← ok_or (pairing_of q r.header.origin) (taken.Refused distrust.Origin)
  with_mac r pairing r.tail
  provided (is_signed c.key c.number r) (taken.Refused distrust.Mac)
  provided (not (is_kiss rate_code r.header pairing)) taken.Rate
  provided (is_synchronised r.header.clock.leap r.header.clock.stratum) (taken.Refused distrust.Unsynchronised)
  provided (not (lacks_stamp r.header)) (taken.Refused distrust.Stamps)
  Ok (taken.Sample (sample_of q pairing r.header at))

-- the header that a client judges: that of octets that are a packet, where a request waits (profile)
abbrev pub header_taken : ClientState → List ℕ → Option HeaderFields
header_taken c octets = option_and_then (λ q. option_map (λ r. r.header) (result_ok (reading_of octets))) c.outstanding

-- the client that has taken octets for something that arrived at a moment: a sample and a RATE end the outstanding request, and a
-- sample leaves the exchange for the next one; all else changes nothing (profile)
abbrev pub after_taken : ClientState → List ℕ → Moment → Taken → ClientState
after_taken c octets at (taken.Sample sample) = record c {
  outstanding = None;
  sampled = option_and_then (λ q. option_map (λ h. exchange_of q h at) (header_taken c octets)) c.outstanding;
}
after_taken c octets at taken.Rate = record c { outstanding = None }
after_taken c octets at _ = c
