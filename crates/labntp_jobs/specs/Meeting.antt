-- A client and a server that meet.
use Rattle.std.specs.Prelude.{◌≡◌, ℕ, ◌^◌, ◌<◌, true, false, Some, List, [], length, All, FitsSigned}
use Rattle.std.specs.Int.{w8}
use Rattle.ntp_packet.specs.{declared.stamp.Stamp.Stamp, declared.moment.Moment.Moment, Fresh.fresh, Header.IsHeader}
use Rattle.ntp_client.specs.{declared.exchange.Exchange.Exchange, declared.exchange.Outstanding.Outstanding}
use Rattle.ntp_client.specs.{declared.sample.Sample.Sample, State.ClientState, Query.query_fields, Query.query_octets}
use Rattle.ntp_customer.specs.Customer.{Enrolment, held_in, enrolment_at}
use Rattle.ntp_customer.specs.Past.{Past}
use Rattle.ntp_reply.specs.Reference.{ReferenceState, IsReference}

-- a request of a client waits for its reply; the fields of its header and the key number have the widths of the packet (RFC 5905, 7.3)
pub record WaitsForReply (c : ClientState) (q : Outstanding) : Type 0 where
  pub outstanding : c.outstanding ≡ Some q
  pub header : IsHeader (query_fields q)
  pub number : c.number < 2 ^ 32

-- the octets of that request (RFC 5905, 7.3)
abbrev pub request_octets : ClientState → Outstanding → List ℕ
request_octets c q = query_octets c.key c.number q

-- an address is enrolled, and its key with the number of a client is the client's
pub record SharesKey (past : Past) (c : ClientState) : Type 0 where
  pub enrolment : Enrolment
  pub enrolled : enrolment_at past ≡ Some enrolment
  pub key : held_in enrolment c.number ≡ Some (record { number = c.number; key = c.key })

-- a state of a server's clock, whose fields have the widths of the packet (RFC 5905, 7.3)
pub record FitsPacket (r : ReferenceState) : Type 0 where
  pub state : IsReference r
  pub precision : FitsSigned w8 r.precision
  pub root_delay : r.root_delay.0 < 2 ^ 32
  pub root_dispersion : r.root_dispersion.0 < 2 ^ 32
  pub reference_id : (length r.reference_id ≡ 4) × All (λ octet. octet < 256) r.reference_id
  pub reference : r.reference.0 < 2 ^ 64

-- the sample of a request and a basic reply to it with these stamps, which arrives at a moment (RFC 5905, 8)
abbrev pub basic_sample : Outstanding → Stamp → Stamp → Moment → Sample
basic_sample q receive transmit at = record { t1 = q.transmit; t2 = receive; t3 = transmit; t4 = fresh at.stamp []; interleaved = false }

-- the sample of an exchange whose reply departed then (RFC 9769, 2)
abbrev pub interleaved_sample : Exchange → Stamp → Sample
interleaved_sample e departure =
    record { t1 = e.transmit; t2 = e.receive; t3 = departure; t4 = e.arrival; interleaved = true }
