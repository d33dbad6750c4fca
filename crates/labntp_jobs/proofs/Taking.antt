-- What a client takes the answer to its own request for.
use Rattle.std.proofs.Common.{◌≡◌, ◌≢◌, ℕ, ◌^◌, ◌<◌, List, Option, Some, None, refl, sym, ap, ◌∙◌, arith}
use Rattle.std.specs.{Prelude.IfSome, Option.option_and_then}
use Rattle.std.proofs.lemmas.Option.{none-some}
use Rattle.ntp_packet.specs.{declared.stamp.Stamp.Stamp, declared.moment.Moment.Moment, Header.header_octets}
use Rattle.ntp_customer.specs.{declared.slot.Slot.Slot, Exchanges.AreSaved, Exchanges.unused_at, Past.Past}
use Rattle.ntp_customer.proofs.PublicLaws.{stamps-apart}
use Rattle.ntp_client.specs.{declared.exchange.Exchange.Exchange, declared.exchange.Outstanding.Outstanding}
use Rattle.ntp_client.specs.declared.pairing.Pairing.TheVariants.{Basic, Interleaved}
use Rattle.ntp_client.specs.{State.ClientState, State.IsOutstanding, Query.query_fields, Taking.taken_for}
use Rattle.ntp_client.specs.declared.taken.Taken.TheVariants as taken
use Rattle.ntp_client.specs.declared.taken.Distrust.TheVariants as distrust
use Rattle.ntp_client.proofs.PublicLaws.{basic-pairing, interleaved-pairing}
use Rattle.ntp_reply.specs.{Replies.time_fields, Replies.sealed, declared.occasion.Occasion.Occasion, Life.Life, Life.recent_of}
use Rattle.ntp_reply.specs.{Kind.kind_of, Exchanged.matched, Exchanged.stamps_of, Verdict.verdict}
use Rattle.ntp_reply.specs.declared.answers.SignedReply.{SignedReply}
use Rattle.ntp_reply.specs.declared.answers.Answer.TheVariants as answer
use Rattle.labntp_jobs.specs.Meeting.{WaitsForReply, SharesKey, FitsPacket, request_octets, basic_sample, interleaved_sample}
use Rattle.labntp_jobs.proofs.{Readings.read-header, Readings.read-sealed, Asked.request-answer, Speaks.kind-speaks}
use Rattle.labntp_jobs.proofs.{Served.told-time, Served.told-rate, Refused.told-nak, Refused.denied}
use Rattle.labntp_jobs.proofs.Stamps.{transmit-known, transmit-fits}
use Rattle.labntp_jobs.proofs.Replies.{rate-taken, deny-taken, nak-taken, sample-taken, unsynchronised-taken}
use Rattle.labntp_jobs.proofs.Matches.{found-member, matched-apart, asked-match}

module _ (c : ClientState) (q : Outstanding) (past : Past) (o : Occasion) (at : Moment) (waits : WaitsForReply c q) where
  -- a time reply with this exchange matched
  matched-reply : (reply : SignedReply) (saved : Stamp) (found : Option Slot) → SharesKey past c
      → matched (recent_of past) (query_fields q) ≡ found → verdict (Some past) o (request_octets c q) ≡ answer.Time reply saved
      → (reply.octets ≡ sealed c.key c.number (time_fields o (query_fields q) found (stamps_of past o)))
      × (saved ≡ (stamps_of past o).receive)
  matched-reply reply saved found shares match is =
      let told = told-time past o c.key c.number (query_fields q) reply saved (sym (request-answer c q past o waits shares) ∙ is) in
      (told.0 ∙ ap (λ x. sealed c.key c.number (time_fields o (query_fields q) x (stamps_of past o))) match, told.1)

  -- a basic one is taken for the sample of the request and the reply
  pub basic-met : (reply : SignedReply) (saved : Stamp) → SharesKey past c → FitsPacket o.reference → o.reference.leap ≢ 3
      → matched (recent_of past) (query_fields q) ≡ None → verdict (Some past) o (request_octets c q) ≡ answer.Time reply saved
      → taken_for c reply.octets at ≡ taken.Sample (basic_sample q saved (stamps_of past o).transmit at)
  basic-met reply saved shares state_fits clock match answered =
      let told = matched-reply reply saved None shares match answered in
      ap (λ octets. taken_for c octets at) told.0
      ∙ sample-taken c q past o at Basic q.transmit (stamps_of past o).transmit waits state_fits clock (transmit-known past o)
      waits.header.transmit (transmit-fits past o) (basic-pairing q q.transmit refl)
      ∙ ap (λ s. taken.Sample (basic_sample q s (stamps_of past o).transmit at)) (sym told.1)

  -- an interleaved one for that of the earlier exchange
  pub interleaved-met : (reply : SignedReply) (saved : Stamp) (carried : Exchange) (found : Slot) → SharesKey past c → FitsPacket o.reference
      → o.reference.leap ≢ 3 → q.earlier ≡ Some carried → matched (recent_of past) (query_fields q) ≡ Some found
      → AreSaved (recent_of past) → found.transmit.0 < 2 ^ 64 → verdict (Some past) o (request_octets c q) ≡ answer.Time reply saved
      → taken_for c reply.octets at ≡ taken.Sample (interleaved_sample carried found.transmit)
  interleaved-met reply saved carried found shares state_fits clock carries match are fits answered =
      let told = matched-reply reply saved (Some found) shares match answered in
      let stamps = matched-apart (recent_of past) (query_fields q) found match in
      let member = (found-member (recent_of past) (query_fields q).origin found stamps.1).0 in
      let known = (stamps-apart (recent_of past) are found found member member).1 in
      let receive : (query_fields q).receive ≡ carried.arrival = rw carries refl in
      let apart : carried.arrival ≢ q.transmit = λ same. stamps.0 (ap (λ (s : Stamp). s.0) (receive ∙ same)) in
      ap (λ octets. taken_for c octets at) told.0
      ∙ sample-taken c q past o at (Interleaved carried) (query_fields q).receive found.transmit waits state_fits clock known
      waits.header.receive fits (interleaved-pairing q carried (query_fields q).receive carries apart receive)

  -- a time reply of a clock that is unsynchronised is refused for that: one with this exchange found, and any
  unsynchronised-by : (reply : SignedReply) (saved : Stamp) (found : Option Slot) (earlier : Option Exchange) → SharesKey past c
      → FitsPacket o.reference → o.reference.leap ≡ 3 → matched (recent_of past) (query_fields q) ≡ found → q.earlier ≡ earlier
      → found ≡ option_and_then (λ e. unused_at (recent_of past) e.receive) earlier → IfSome found (λ x. x.transmit.0 < 2 ^ 64)
      → verdict (Some past) o (request_octets c q) ≡ answer.Time reply saved → taken_for c reply.octets at ≡ taken.Refused distrust.Unsynchronised
  unsynchronised-by reply saved None earlier shares state_fits clock match carries asked fits answered =
      ap (λ octets. taken_for c octets at) (matched-reply reply saved None shares match answered).0
      ∙ unsynchronised-taken c q past o at Basic q.transmit (stamps_of past o).transmit waits state_fits clock
      waits.header.transmit (transmit-fits past o) (basic-pairing q q.transmit refl)
  unsynchronised-by reply saved (Some x) None shares state_fits clock match carries asked fits answered = absurd (none-some x (sym asked))
  unsynchronised-by reply saved (Some x) (Some e) shares state_fits clock match carries asked fits answered =
      let stamps = matched-apart (recent_of past) (query_fields q) x match in
      let receive : (query_fields q).receive ≡ e.arrival = rw carries refl in
      let apart : e.arrival ≢ q.transmit = λ same. stamps.0 (ap (λ (s : Stamp). s.0) (receive ∙ same)) in
      ap (λ octets. taken_for c octets at) (matched-reply reply saved (Some x) shares match answered).0
      ∙ unsynchronised-taken c q past o at (Interleaved e) (query_fields q).receive x.transmit waits state_fits clock
      waits.header.receive fits (interleaved-pairing q e (query_fields q).receive carries apart receive)

  pub unsynchronised-met : (reply : SignedReply) (saved : Stamp) → SharesKey past c → FitsPacket o.reference → o.reference.leap ≡ 3
      → IsOutstanding q → AreSaved (recent_of past)
      → IfSome (matched (recent_of past) (query_fields q)) (λ found. found.transmit.0 < 2 ^ 64)
      → verdict (Some past) o (request_octets c q) ≡ answer.Time reply saved → taken_for c reply.octets at ≡ taken.Refused distrust.Unsynchronised
  unsynchronised-met reply saved shares state_fits clock is are fits answered =
      unsynchronised-by reply saved (matched (recent_of past) (query_fields q)) q.earlier shares state_fits clock refl refl
      (asked-match q (recent_of past) is are) fits answered

  -- a RATE is taken for one
  pub rate-met : (reply : SignedReply) → SharesKey past c → verdict (Some past) o (request_octets c q) ≡ answer.Rate reply
      → taken_for c reply.octets at ≡ taken.Rate
  rate-met reply shares is = grind (arith, told-rate, request-answer, rate-taken)

-- whatever the life of the address: a crypto-NAK is taken for one
pub nak-met : (c : ClientState) (q : Outstanding) (life : Life) (o : Occasion) (reply : List ℕ) (at : Moment) → WaitsForReply c q
    → FitsPacket o.reference → verdict life o (request_octets c q) ≡ answer.Nak reply → taken_for c reply at ≡ taken.Nak
nak-met c q None o reply at waits state_fits is = absurd (cc)
nak-met c q (Some past) o reply at waits state_fits is =
    let read = read-sealed c.key c.number (query_fields q) waits.header waits.number in
    let speaks = kind-speaks past (request_octets c q) _ read in
    ap (λ octets. taken_for c octets at) (told-nak past o (query_fields q) (kind_of past (request_octets c q)) reply speaks is)
    ∙ nak-taken c q past o at waits state_fits

-- a DENY is, whether the MAC of the request came or not
pub deny-met : (c : ClientState) (q : Outstanding) (life : Life) (o : Occasion) (reply : List ℕ) (at : Moment) → WaitsForReply c q
    → verdict life o (header_octets (query_fields q)) ≡ answer.Deny reply → taken_for c reply at ≡ taken.Deny
deny-met c q life o reply at waits is =
    ap (λ octets. taken_for c octets at)
    (denied life o (header_octets (query_fields q)) _ reply (read-header (query_fields q) waits.header) is)
    ∙ deny-taken c q at waits

pub revoked-met : (c : ClientState) (q : Outstanding) (life : Life) (o : Occasion) (reply : List ℕ) (at : Moment) → WaitsForReply c q
    → verdict life o (request_octets c q) ≡ answer.Deny reply → taken_for c reply at ≡ taken.Deny
revoked-met c q life o reply at waits is =
    ap (λ octets. taken_for c octets at)
    (denied life o (request_octets c q) _ reply (read-sealed c.key c.number (query_fields q) waits.header waits.number) is)
    ∙ deny-taken c q at waits
