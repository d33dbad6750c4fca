-- What a time reply leaves on both sides.
use Rattle.std.proofs.Common.{◌≡◌, ℕ, ◌^◌, ◌<◌, List, [], Option, Some, None, Ok, refl, sym, ap, ◌∙◌, arith}
use Rattle.std.specs.Prelude.{IfSome, option_map, option_and_then}
use Rattle.ntp_packet.specs.{declared.stamp.Stamp.Stamp, declared.moment.Moment.Moment, Fresh.fresh}
use Rattle.ntp_packet.specs.Header.{HeaderFields, IsHeader}
use Rattle.ntp_mac.specs.Reading.{reading_of}
use Rattle.ntp_customer.specs.{declared.slot.Slot.Slot, Exchanges.new_exchange, Exchanges.unused_at, Past.Past}
use Rattle.ntp_client.specs.declared.{exchange.Exchange.Exchange, exchange.Outstanding.Outstanding, sample.Sample.Sample}
use Rattle.ntp_client.specs.{State.ClientState, Query.query_fields, Pairing.exchange_of, Taking.header_taken, Taking.after_taken}
use Rattle.ntp_client.specs.declared.taken.Taken.TheVariants as taken
use Rattle.ntp_reply.specs.{Replies.time_fields, declared.occasion.Occasion.Occasion, Life.recent_of, Life.recent_in, Kind.Signed}
use Rattle.ntp_reply.specs.{Exchanged.matched, Exchanged.stamps_of, Verdict.kind_answer, Verdict.after_kind, Verdict.verdict}
use Rattle.ntp_reply.specs.{Verdict.after_datagram, Verdict.window_at, declared.answers.SignedReply.SignedReply}
use Rattle.ntp_reply.specs.declared.answers.Answer.TheVariants as answer
use Rattle.labntp_jobs.specs.Meeting.{WaitsForReply, SharesKey, FitsPacket, request_octets}
use Rattle.labntp_jobs.proofs.{Readings.sealed_packet, Readings.read-sealed, Stamps.receive-fits, Stamps.transmit-fits}
use Rattle.labntp_jobs.proofs.{Headers.IsHeader-reply, Asked.request-kind, Asked.request-answer}
use Rattle.labntp_jobs.proofs.{Served.told-time, Served.after-told_time, Saved.time-found}

-- the header of a time reply has the widths of the packet, and the new receive stamp
time-header : (past : Past) (o : Occasion) (q : Outstanding) (found : Option Slot) → FitsPacket o.reference → IsHeader (query_fields q)
    → IfSome found (λ x. x.transmit.0 < 2 ^ 64)
    → IsHeader (time_fields o (query_fields q) found (stamps_of past o))
    × ((time_fields o (query_fields q) found (stamps_of past o)).receive ≡ (stamps_of past o).receive)
time-header past o q found e f g = grind (arith, IsHeader-reply, receive-fits, transmit-fits)

module _ (c : ClientState) (q : Outstanding) (past : Past) (o : Occasion) (reply : SignedReply) (saved : Stamp) (waits : WaitsForReply c q)
    (shares : SharesKey past c) (answered : verdict (Some past) o (request_octets c q) ≡ answer.Time reply saved) where
  signed-answer : kind_answer past o (Signed c.key c.number (query_fields q)) ≡ answer.Time reply saved
  signed-answer = sym (request-answer c q past o waits shares) ∙ answered

  -- a client that takes the reply for a sample carries their exchange
  pub carried-after : (at : Moment) (s : Sample) → FitsPacket o.reference
      → IfSome (matched (recent_of past) (query_fields q)) (λ found. found.transmit.0 < 2 ^ 64)
      → after_taken c reply.octets at (taken.Sample s) ≡ record {
        key = c.key;
        number = c.number;
        outstanding = None;
        sampled = Some (record { transmit = q.transmit; receive = saved; arrival = fresh at.stamp [] });
      }
  carried-after at s state_fits fits =
      let h : HeaderFields = time_fields o (query_fields q) (matched (recent_of past) (query_fields q)) (stamps_of past o) in
      let told = told-time past o c.key c.number (query_fields q) reply saved signed-answer in
      let header = time-header past o q (matched (recent_of past) (query_fields q)) state_fits waits.header fits in
      let read : reading_of reply.octets ≡ Ok (sealed_packet c.key c.number h) =
      ap reading_of told.0 ∙ read-sealed c.key c.number h header.0 waits.number in
      let exchange : option_and_then (λ q. option_map (λ h. exchange_of q h at) (header_taken c reply.octets)) c.outstanding ≡ Some (exchange_of q h at) =
      rw (waits.outstanding, read) refl in
      ap (λ (e : Option Exchange). record c { outstanding = None; sampled = e }) (exchange
      ∙ ap (λ r. Some (record { transmit = q.transmit; receive = r; arrival = fresh at.stamp [] })) (header.1 ∙ sym told.1))

  -- and the server has it, unused
  pub saved-after : unused_at (recent_in (after_datagram (Some past) o (request_octets c q))) saved
      ≡ Some (new_exchange saved (stamps_of past o).transmit)
  saved-after =
      let told = told-time past o c.key c.number (query_fields q) reply saved signed-answer in
      let after = ap (after_kind past o) (request-kind c q past waits shares)
      ∙ after-told_time past o c.key c.number (query_fields q) reply saved signed-answer in
      rw told.1 (ap (λ p. unused_at (recent_of p) (stamps_of past o).receive) after
      ∙ time-found shares.enrolment o (query_fields q) (window_at o) past shares.enrolled)
