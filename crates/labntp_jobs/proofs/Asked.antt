-- What a client's request is to the server.
use Rattle.std.proofs.Common.{◌≡◌, ℕ, ◌^◌, ◌<◌, Some, IfSome, Ok, refl, ap, ◌∙◌, arith}
use Rattle.ntp_packet.specs.declared.moment.Moment.{Moment}
use Rattle.ntp_mac.specs.{Key.SymmetricKey, Reading.reading_of}
use Rattle.ntp_mac.proofs.PublicLaws.{is-signed}
use Rattle.ntp_client.specs.{declared.exchange.Outstanding.Outstanding, State.ClientState}
use Rattle.ntp_client.specs.Query.{query_fields, next_query, after_query}
use Rattle.ntp_customer.specs.{Customer.Enrolment, Customer.held_in, Past.Past}
use Rattle.ntp_reply.specs.{declared.occasion.Occasion.Occasion, Verdict.kind_answer, Verdict.verdict}
use Rattle.ntp_reply.specs.Kind.{Signed, octets_kind, kind_of}
use Rattle.labntp_jobs.specs.Meeting.{WaitsForReply, SharesKey, request_octets}
use Rattle.labntp_jobs.proofs.Headers.{IsHeader-query}
use Rattle.labntp_jobs.proofs.Readings.{sealed_packet, signed-sealed, read-sealed}

-- sealed under a key that the customer has, a request is signed
signed-kind : (key : SymmetricKey) (number : ℕ) (q : Outstanding) (e : Enrolment)
    → held_in e number ≡ Some (record { number = number; key = key })
    → octets_kind (Some e) (Ok (sealed_packet key number (query_fields q))) ≡ Signed key number (query_fields q)
signed-kind key number q e held = grind (arith, is-signed, sealed_packet, signed-sealed)

-- a request is a signed query, where the key is shared
pub request-kind : (c : ClientState) (q : Outstanding) (past : Past) → WaitsForReply c q → SharesKey past c
    → kind_of past (request_octets c q) ≡ Signed c.key c.number (query_fields q)
request-kind c q past waits shares =
    ap (λ enrolment. octets_kind enrolment (reading_of (request_octets c q))) shares.enrolled
    ∙ ap (octets_kind (Some shares.enrolment)) (read-sealed c.key c.number (query_fields q) waits.header waits.number)
    ∙ signed-kind c.key c.number q shares.enrolment shares.key

-- and its answer is that to one
pub request-answer : (c : ClientState) (q : Outstanding) (past : Past) (o : Occasion) → WaitsForReply c q → SharesKey past c
    → verdict (Some past) o (request_octets c q) ≡ kind_answer past o (Signed c.key c.number (query_fields q))
request-answer c q past o waits shares = ap (kind_answer past o) (request-kind c q past waits shares)

-- the request that a client makes waits
pub made-waits : (c : ClientState) (now : Moment) → c.number < 2 ^ 32
    → IfSome c.sampled (λ e. (e.receive.0 < 2 ^ 64) × (e.arrival.0 < 2 ^ 64)) → WaitsForReply (after_query c now) (next_query c now)
made-waits c now number fit = record { outstanding = refl; header = IsHeader-query c.sampled now fit; number = number }
