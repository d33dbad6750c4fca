-- Who asks a server.
use Rattle.std.specs.Prelude.{ℕ, List, [], ◌==◌, ◌&&◌, not, nat_lt, length, Bool, false, None, Result, Ok, Err}
use Rattle.ntp_packet.specs.{declared.stamp.Stamp.Stamp, declared.moment.Moment.Moment, declared.malformed.Malformed.Malformed}
use Rattle.ntp_packet.specs.{Fresh.fresh, Header.HeaderFields, Header.header_octets, Request.RequestValue}
use Rattle.ntp_packet.specs.FirstCase.{◌>>◌, provided, decided}
use Rattle.ntp_mac.specs.Reading.{reading_of}
use Rattle.ntp_client.specs.declared.taken.Distrust.TheVariants as distrust
use Rattle.ntp_client.specs.Query.{query_octets, query_fields, next_query, after_query}
use Rattle.ntp_client.specs.Taking.{is_synchronised, lacks_stamp}
use Rattle.ntp_query.specs.declared.asker.Asker.{Asker}
use Rattle.ntp_query.specs.declared.asker.Asker.TheVariants.{Signed, Unsigned}
use Rattle.ntp_query.specs.{declared.outcome.Outcome.Outcome, Answer.answer_of, Outcome.heard, Reference.code_of}
use Rattle.ntp_query.specs.declared.outcome.Outcome.TheVariants.{Answered, Kiss, Refused}

-- the octets of the request that departs at a moment: a client's, or a header alone with a fresh transmit stamp (RFC 5905, 7.3 and 8)
abbrev pub request_octets : Asker → Moment → List ℕ
request_octets (Signed c) now = query_octets c.key c.number (next_query c now)
request_octets (Unsigned last) now = header_octets (query_fields (record { transmit = fresh now.stamp []; earlier = None }))

-- who has sent it
abbrev pub after_request : Asker → Moment → Asker
after_request (Signed c) now = Signed (after_query c now)
after_request (Unsigned last) now = Unsigned (fresh now.stamp [])

-- whether a reply is a kiss-o'-death: its identifier is a code (RFC 5905, 7.4)
abbrev pub is_kiss : HeaderFields → Bool
is_kiss h = (h.clock.stratum == 0) && nat_lt 0 (length (code_of h.clock.reference_id))

-- what a reply to an unsigned request comes to, by the first case that applies (RFC 5905, 7.3, 7.4 and 8)
abbrev pub judged : Stamp → HeaderFields → Moment → Outcome
judged transmit h at = decided do
  provided (h.mode == 4) (Refused distrust.Mode)
  provided (h.version == 4) (Refused distrust.Version)
  provided (h.origin.0 == transmit.0) (Refused distrust.Origin)
  provided (not (is_kiss h)) (Kiss h.clock.reference_id)
  provided (is_synchronised h.clock.leap h.clock.stratum) (Refused distrust.Unsynchronised)
  provided (not (lacks_stamp h)) (Refused distrust.Stamps)
  Ok (Answered (answer_of (record { t1 = transmit; t2 = h.receive; t3 = h.transmit; t4 = fresh at.stamp []; interleaved = false }) false h))

abbrev pub judged_as_read : Stamp → Moment → Result RequestValue Malformed → Outcome
judged_as_read transmit at (Ok r) = judged transmit r.header at
judged_as_read transmit at (Err fault) = Refused (distrust.Malformed fault)

-- what octets come to that arrive at a moment; of those that came to an unsigned request, only the header counts
abbrev pub heard_by : Asker → List ℕ → Moment → Outcome
heard_by (Signed c) octets at = heard c octets at
heard_by (Unsigned transmit) octets at = judged_as_read transmit at (reading_of octets)
