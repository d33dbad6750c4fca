-- What gives a client a sample.
use Rattle.std.specs.Prelude.{◌≡◌, ◌≢◌, ℕ, ℤ, ◌≤◌, ◌+ℤ◌, ◌-ℤ◌, ◌⊎◌, true, false, Some, List, []}
use Rattle.ntp_packet.specs.{declared.moment.Moment.Moment, Difference.difference, Fresh.fresh, Header.HeaderFields}
use Rattle.ntp_packet.specs.Request.{RequestValue, IsRequest}
use Rattle.ntp_mac.specs.Signed.{IsSigned}
use Rattle.ntp_client.specs.{declared.exchange.Exchange.Exchange, declared.exchange.Outstanding.Outstanding}
use Rattle.ntp_client.specs.{declared.sample.Sample.Sample, State.ClientState}

-- twice the offset of the server's clock from the client's, in units of 2^-32 seconds (RFC 5905, 8)
abbrev pub offset_twice : Sample → ℤ
offset_twice s = difference s.t2 s.t1 +ℤ difference s.t3 s.t4

-- the round trip delay between client and server, in units of 2^-32 seconds (RFC 5905, 8)
abbrev pub delay : Sample → ℤ
delay s = difference s.t4 s.t1 -ℤ difference s.t3 s.t2

-- a server's reply of version 4, from a clock that is synchronised and with stamps of known time (RFC 5905, 7.3)
pub record IsTimeReply (h : HeaderFields) : Type 0 where
  pub mode : h.mode ≡ 4
  pub version : h.version ≡ 4
  pub leap : h.clock.leap ≢ 3
  pub stratum_from : 1 ≤ h.clock.stratum
  pub stratum_to : h.clock.stratum ≤ 15
  pub receive : h.receive.0 ≢ 0
  pub transmit : h.transmit.0 ≢ 0

-- a reply answers the request by its transmit stamp, and the sample is that of the two (RFC 5905, 8)
pub record IsBasic (q : Outstanding) (h : HeaderFields) (at : Moment) (s : Sample) : Type 0 where
  pub origin : h.origin ≡ q.transmit
  pub stamps : s ≡ record { t1 = q.transmit; t2 = h.receive; t3 = h.transmit; t4 = fresh at.stamp []; interleaved = false }

-- a reply answers the request by its receive stamp, and the sample is that of the earlier exchange, with the departure stamp
-- that the reply tells of it (RFC 9769, 2; profile)
pub record IsInterleaved (q : Outstanding) (h : HeaderFields) (s : Sample) : Type 0 where
  pub earlier : Exchange
  pub carried : q.earlier ≡ Some earlier
  pub origin : h.origin ≡ earlier.arrival
  pub stamps : s ≡ record { t1 = earlier.transmit; t2 = earlier.receive; t3 = h.transmit; t4 = earlier.arrival; interleaved = true }

-- octets that arrive at a moment give a client a sample: they are an authentic time reply that answers its request (RFC 5905, 8;
-- RFC 9769, 2; profile)
pub record IsSample (c : ClientState) (octets : List ℕ) (at : Moment) (s : Sample) : Type 0 where
  pub asked : Outstanding
  pub outstanding : c.outstanding ≡ Some asked
  pub reply : RequestValue
  pub reads : IsRequest octets reply
  pub time : IsTimeReply reply.header
  pub signed : IsSigned c.key c.number reply
  pub pairs : IsBasic asked reply.header at s ⊎ IsInterleaved asked reply.header s
