-- Which exchange a reply belongs to.
use Rattle.std.specs.Prelude.{Bool, true, false, Option, Some, None, option_and_then, ◌==◌, if◌then◌else◌, []}
use Rattle.ntp_packet.specs.{declared.stamp.Stamp.Stamp, declared.moment.Moment.Moment, Fresh.fresh, Header.HeaderFields}
use Rattle.ntp_client.specs.{declared.exchange.Exchange.Exchange, declared.exchange.Outstanding.Outstanding}
use Rattle.ntp_client.specs.declared.pairing.Pairing.{Pairing}
use Rattle.ntp_client.specs.declared.pairing.Pairing.TheVariants.{Basic, Interleaved}
use Rattle.ntp_client.specs.declared.sample.Sample.{Sample}

-- the pairing of a reply, by its origin: with the request, by its transmit stamp, or with the earlier exchange, by its arrival (RFC 5905,
-- 8; RFC 9769, 2)
abbrev pub pairing_of : Outstanding → Stamp → Option Pairing
pairing_of q origin =
    if origin.0 == q.transmit.0 then Some Basic
    else option_and_then (λ e. if origin.0 == e.arrival.0 then Some (Interleaved e) else None) q.earlier

-- whether a reply answers the request by its transmit stamp (RFC 5905, 8)
abbrev pub is_basic : Pairing → Bool
is_basic Basic = true
is_basic (Interleaved earlier) = false

-- the exchange of a request with the reply that arrived at a moment (RFC 5905, 8)
abbrev pub exchange_of : Outstanding → HeaderFields → Moment → Exchange
exchange_of q reply at = record { transmit = q.transmit; receive = reply.receive; arrival = fresh at.stamp [] }

-- the four stamps: of the request and its reply, or of the earlier exchange with the departure that the present reply tells
-- (RFC 5905, 8; RFC 9769, 2; profile)
abbrev pub sample_of : Outstanding → Pairing → HeaderFields → Moment → Sample
sample_of q Basic reply at =
    record { t1 = q.transmit; t2 = reply.receive; t3 = reply.transmit; t4 = fresh at.stamp []; interleaved = false }
sample_of q (Interleaved earlier) reply at =
    record { t1 = earlier.transmit; t2 = earlier.receive; t3 = reply.transmit; t4 = earlier.arrival; interleaved = true }
