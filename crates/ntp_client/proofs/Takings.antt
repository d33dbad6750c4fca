-- What a client takes octets for, once they are read; and what it is before and after.
use Rattle.std.proofs.Common.{◌≡◌, ◌≢◌, ℕ, ◌<◌, List, [], ◌∷◌, Option, Some, None, Result, Ok, option_map, refl, ap, ◌∙◌, arith}
use Rattle.std.specs.{Prelude.Contains, Result.result_ok}
use Rattle.std.proofs.lemmas.Bool.{eq-eqb}
use Rattle.ntp_packet.specs.{declared.stamp.Stamp.Stamp, declared.moment.Moment.Moment, Header.HeaderFields}
use Rattle.ntp_packet.specs.{FirstCase.◌>>◌, FirstCase.decided, Request.RequestValue, declared.malformed.Malformed.Malformed}
use Rattle.ntp_packet.proofs.PublicLaws.{fresh-apart, fresh-nonzero}
use Rattle.ntp_mac.specs.{Key.SymmetricKey, Reading.reading_of, Signed.IsSigned}
use Rattle.ntp_mac.proofs.PublicLaws.{is-signed}
use Rattle.ntp_client.specs.declared.{exchange.Exchange.Exchange, exchange.Outstanding.Outstanding, pairing.Pairing.Pairing}
use Rattle.ntp_client.specs.{declared.sample.Sample.Sample, Query.transmit_of, State.ClientState, State.IsOutstanding}
use Rattle.ntp_client.specs.{State.IsClient, Pairing.pairing_of, Pairing.exchange_of, Pairing.sample_of, Taking.with_mac}
use Rattle.ntp_client.specs.{Taking.taken_for, Taking.header_taken, Judging.authentic_steps, Judging.mac_steps}
use Rattle.ntp_client.specs.Judging.{tail_steps, packet_steps}

-- while a request waits, octets are taken for the packet that they are read as
pub read-taken : (c : ClientState) (q : Outstanding) (octets : List ℕ) (r : RequestValue) (at : Moment) → c.outstanding ≡ Some q
    → reading_of octets ≡ Ok r → taken_for c octets at ≡ decided (packet_steps c.key c.number q r at)
read-taken c q octets r at there read = rw (there, read) refl

-- and its header is judged
pub header-taken : (c : ClientState) (q : Outstanding) (octets : List ℕ) (reading : Result RequestValue Malformed) → c.outstanding ≡ Some q
    → reading_of octets ≡ reading → header_taken c octets ≡ option_map (λ r. r.header) (result_ok reading)
header-taken c q octets reading there read = rw (there, read) refl

-- and a server's reply to the request for what its tail says
pub paired-taken : (key : SymmetricKey) (number : ℕ) (q : Outstanding) (r : RequestValue) (at : Moment) (p : Pairing)
    → r.header.mode ≡ 4 → r.header.version ≡ 4 → pairing_of q r.header.origin ≡ Some p
    → packet_steps key number q r at ≡ tail_steps key number p r (sample_of q p r.header at)
paired-taken key number q r at p mode version paired = grind (arith, eq-eqb)

-- and a signed one for what its header says
pub signed-taken : (key : SymmetricKey) (number : ℕ) (p : Pairing) (r : RequestValue) (x : Sample) → IsSigned key number r
    → tail_steps key number p r x ≡ authentic_steps p r.header x
unfolding IsSigned
signed-taken key number p r x signed =
    ap (λ tail. with_mac r p tail >> mac_steps key number p r x) signed ∙ rw ((is-signed key number r).1 signed) refl

-- no request has its receive stamp as its transmit stamp
transmit-apart : (earlier : Option Exchange) (now : Moment) (e : Exchange) → earlier ≡ Some e → e.arrival ≢ transmit_of earlier now
transmit-apart None now e is = absurd (cc)
transmit-apart (Some first) now e is =
    let same : first ≡ e = cc in
    let member : Contains (first.arrival ∷ []) e.arrival = (0, omega arith, ap (λ (x : Exchange). x.arrival) same) in
    fresh-apart now.stamp (first.arrival ∷ []) (omega arith) e.arrival member

-- what holds of a client that has made a request, where the next one carries no other exchange
pub query-client : (key : SymmetricKey) (number : ℕ) (transmit : Stamp) (earlier sampled : Option Exchange) (now : Moment) → 0 < number
    → ((e : Exchange) → earlier ≡ Some e → e.arrival.0 ≢ 0) → transmit ≡ transmit_of earlier now
    → ((e : Exchange) → sampled ≡ Some e → earlier ≡ Some e)
    → IsClient (record {
      key = key;
      number = number;
      outstanding = Some
          (record { transmit = transmit; earlier = earlier });
      sampled = sampled;
    })
query-client key number transmit earlier sampled now given known is no_other = grind (arith, transmit-apart)

-- what holds of a client that has taken a sample, where no other request waits than before
pub sampled-client : (key : SymmetricKey) (number : ℕ) (before outstanding : Option Outstanding) (q : Outstanding) (reply : HeaderFields)
    (at : Moment) (exchange : Exchange) → 0 < number
    → ((o : Outstanding) → before ≡ Some o → IsOutstanding o) → exchange ≡ exchange_of q reply at
    → ((o : Outstanding) → outstanding ≡ Some o → before ≡ Some o)
    → IsClient (record { key = key; number = number; outstanding = outstanding; sampled = Some exchange })
sampled-client key number before outstanding q reply at exchange given waits is no_other = grind (arith, fresh-nonzero)
