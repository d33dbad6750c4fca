-- What a client takes a server's reply for.
use Rattle.std.proofs.Common.{◌≡◌, ◌≢◌, ℕ, ◌^◌, ◌<◌, ◌≤◌, List, ◌++◌, Some, Ok, refl, ap, ◌∙◌, arith}
use Rattle.std.proofs.lemmas.Bool.{eq-eqb, ne_eqb}
use Rattle.ntp_packet.specs.{declared.stamp.Stamp.Stamp, declared.moment.Moment.Moment, FirstCase.decided, Tail.NoTail}
use Rattle.ntp_packet.specs.{Tail.BareTail, Request.RequestValue, Header.HeaderFields, Header.IsHeader, Header.header_octets}
use Rattle.ntp_mac.specs.{Mac.nak_octets, Reading.reading_of}
use Rattle.ntp_client.specs.{declared.exchange.Outstanding.Outstanding, declared.pairing.Pairing.Pairing}
use Rattle.ntp_client.specs.{declared.pairing.Pairing.TheVariants.Basic, State.ClientState, Query.query_fields}
use Rattle.ntp_client.specs.{Pairing.pairing_of, Pairing.sample_of, Sample.IsTimeReply, Taking.taken_for}
use Rattle.ntp_client.specs.Judging.{authentic_steps, tail_steps}
use Rattle.ntp_client.specs.declared.taken.Taken.TheVariants as taken
use Rattle.ntp_client.specs.declared.taken.Distrust.TheVariants as distrust
use Rattle.ntp_client.proofs.PublicLaws.{basic-pairing, time-taken, read-taken, paired-taken, signed-taken}
use Rattle.ntp_customer.specs.Past.{Past}
use Rattle.ntp_reply.specs.{Reference.ReferenceState, Reference.IsReference, declared.occasion.Occasion.Occasion}
use Rattle.ntp_reply.specs.{declared.kiss.Kiss.TheVariants.Rate, declared.kiss.Kiss.TheVariants.Deny, Exchanged.stamps_of}
use Rattle.ntp_reply.specs.Replies.{reply_fields, basic_fields, kiss_fields, shown_stratum, sealed}
use Rattle.labntp_jobs.specs.Meeting.{WaitsForReply, FitsPacket}
use Rattle.labntp_jobs.proofs.Stamps.{receive-known, receive-fits, transmit-fits}
use Rattle.labntp_jobs.proofs.Headers.{IsHeader-reply, IsHeader-kiss}
use Rattle.labntp_jobs.proofs.Readings.{packet, sealed_packet, signed-sealed, read-header, read-nak, read-sealed}

-- a reply to the request's transmit stamp is taken for what its tail says
basic-taken : (c : ClientState) (q : Outstanding) (octets : List ℕ) (r : RequestValue) (at : Moment) → c.outstanding ≡ Some q
    → reading_of octets ≡ Ok r → r.header.mode ≡ 4 → r.header.version ≡ 4 → r.header.origin ≡ q.transmit
    → taken_for c octets at ≡ decided (tail_steps c.key c.number Basic r (sample_of q Basic r.header at))
basic-taken c q octets r at there read mode version is = grind (arith, read-taken, paired-taken, basic-pairing)

-- a RATE is taken for one
pub rate-taken : (c : ClientState) (q : Outstanding) (at : Moment) → WaitsForReply c q
    → taken_for c (sealed c.key c.number (kiss_fields Rate (query_fields q))) at ≡ taken.Rate
rate-taken c q at waits =
    let h : HeaderFields = kiss_fields Rate (query_fields q) in
    let r : RequestValue = sealed_packet c.key c.number h in
    basic-taken c q _ r at waits.outstanding (read-sealed c.key c.number h (IsHeader-kiss Rate q waits.header) waits.number) refl refl refl
    ∙ ap decided (signed-taken c.key c.number Basic r (sample_of q Basic h at) (signed-sealed c.key c.number h))

-- a DENY is taken for one
pub deny-taken : (c : ClientState) (q : Outstanding) (at : Moment) → WaitsForReply c q → taken_for c (header_octets (kiss_fields Deny (query_fields q))) at ≡ taken.Deny
deny-taken c q at waits =
    let h : HeaderFields = kiss_fields Deny (query_fields q) in
    let r : RequestValue = packet h NoTail in
    basic-taken c q _ r at waits.outstanding (read-header h (IsHeader-kiss Deny q waits.header)) refl refl refl

-- a crypto-NAK is taken for one
pub nak-taken : (c : ClientState) (q : Outstanding) (past : Past) (o : Occasion) (at : Moment) → WaitsForReply c q → FitsPacket o.reference
    → taken_for c (header_octets (basic_fields o (query_fields q) (stamps_of past o)) ++ nak_octets) at ≡ taken.Nak
nak-taken c q past o at waits fits =
    let h : HeaderFields = basic_fields o (query_fields q) (stamps_of past o) in
    let is : IsHeader h =
    IsHeader-reply o.reference q q.transmit _ _ fits waits.header waits.header.transmit (receive-fits past o) (transmit-fits past o) in
    let r : RequestValue = packet h (BareTail 0) in
    basic-taken c q _ r at waits.outstanding (read-nak h is) refl refl refl

-- the header of a signed reply, with the new receive stamp
abbrev stamped : Past → Occasion → Outstanding → Stamp → Stamp → HeaderFields
stamped past o q origin transmit = reply_fields o.reference (query_fields q) origin (stamps_of past o).receive transmit

-- a signed reply of a pairing is taken for what its header says
signed-reply : (c : ClientState) (q : Outstanding) (past : Past) (o : Occasion) (at : Moment) (p : Pairing) (origin transmit : Stamp)
    → WaitsForReply c q → FitsPacket o.reference → origin.0 < 2 ^ 64 → transmit.0 < 2 ^ 64 → pairing_of q origin ≡ Some p
    → taken_for c (sealed c.key c.number (stamped past o q origin transmit)) at
    ≡ decided (authentic_steps p (stamped past o q origin transmit) (sample_of q p (stamped past o q origin transmit) at))
signed-reply c q past o at p origin transmit waits fits origin_fits transmit_fits paired =
    let h : HeaderFields = stamped past o q origin transmit in
    let r : RequestValue = sealed_packet c.key c.number h in
    let is : IsHeader h =
    IsHeader-reply o.reference q origin _ transmit fits waits.header origin_fits (receive-fits past o) transmit_fits in
    read-taken c q _ r at waits.outstanding (read-sealed c.key c.number h is waits.number)
    ∙ ap decided (paired-taken c.key c.number q r at p refl refl paired
    ∙ signed-taken c.key c.number p r (sample_of q p h at) (signed-sealed c.key c.number h))

-- the stratum of a clock that is synchronised
stratum-synchronised : (r : ReferenceState) → IsReference r → r.leap ≢ 3 → (1 ≤ shown_stratum r) × (shown_stratum r ≤ 15)
stratum-synchronised r is clock = grind (arith, ne_eqb)

-- of such a clock, and with a transmit stamp of known time, for the sample of its pairing
pub sample-taken : (c : ClientState) (q : Outstanding) (past : Past) (o : Occasion) (at : Moment) (p : Pairing) (origin transmit : Stamp)
    → WaitsForReply c q → FitsPacket o.reference → o.reference.leap ≢ 3 → transmit.0 ≢ 0 → origin.0 < 2 ^ 64 → transmit.0 < 2 ^ 64
    → pairing_of q origin ≡ Some p
    → taken_for c (sealed c.key c.number (stamped past o q origin transmit)) at
    ≡ taken.Sample (sample_of q p (stamped past o q origin transmit) at)
sample-taken c q past o at p origin transmit waits fits clock known origin_fits transmit_fits paired =
    let h : HeaderFields = stamped past o q origin transmit in
    let stratum = stratum-synchronised o.reference fits.state clock in
    let time : IsTimeReply h = record {
      mode = refl;
      version = refl;
      leap = clock;
      stratum_from = stratum.0;
      stratum_to = stratum.1;
      receive = receive-known past o;
      transmit = known;
    } in
    signed-reply c q past o at p origin transmit waits fits origin_fits transmit_fits paired ∙ time-taken p h (sample_of q p h at) time

-- of a clock that is unsynchronised, for that
pub unsynchronised-taken : (c : ClientState) (q : Outstanding) (past : Past) (o : Occasion) (at : Moment) (p : Pairing)
    (origin transmit : Stamp) → WaitsForReply c q → FitsPacket o.reference → o.reference.leap ≡ 3 → origin.0 < 2 ^ 64 → transmit.0 < 2 ^ 64
    → pairing_of q origin ≡ Some p
    → taken_for c (sealed c.key c.number (stamped past o q origin transmit)) at ≡ taken.Refused distrust.Unsynchronised
unsynchronised-taken c q past o at p origin transmit waits fits clock origin_fits transmit_fits paired =
    signed-reply c q past o at p origin transmit waits fits origin_fits transmit_fits paired
    ∙ rw (eq-eqb o.reference.stratum 16 (fits.state.together.0 clock), eq-eqb o.reference.leap 3 clock) refl
