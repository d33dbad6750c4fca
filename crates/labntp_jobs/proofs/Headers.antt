-- The headers of replies and requests have the widths of the packet.
use Rattle.std.proofs.Common.{◌≡◌, ℕ, ◌^◌, ◌<◌, ◌≤◌, ◌==◌, Bool, Option, List, [], ◌∷◌, length, refl, arith}
use Rattle.std.proofs.Math.Facts.{sfits_lit}
use Rattle.std.specs.Prelude.{if◌then◌else◌, IfSome}
use Rattle.ntp_packet.specs.{declared.stamp.Stamp.Stamp, declared.moment.Moment.Moment, Header.IsHeader}
use Rattle.ntp_packet.proofs.PublicLaws.{fresh-below}
use Rattle.ntp_client.specs.{declared.exchange.Exchange.Exchange, declared.exchange.Outstanding.Outstanding}
use Rattle.ntp_client.specs.Query.{query_fields, origin_of, receive_of, transmit_of}
use Rattle.ntp_reply.specs.{Reference.ReferenceState, declared.kiss.Kiss.Kiss}
use Rattle.ntp_reply.specs.Replies.{reply_fields, kiss_code, kiss_transmit, kiss_fields}
use Rattle.labntp_jobs.specs.Meeting.{FitsPacket}
use Rattle.labntp_jobs.proofs.Octets.{Octets, four}

-- a stratum of at most 16, or 0 in its place
stratum-fits : (unsynchronised : Bool) (stratum : ℕ) → stratum ≤ 16 → (if unsynchronised then 0 else stratum) < 2 ^ 8
stratum-fits unsynchronised stratum e = grind arith

-- an identifier, or zeros in its place
id-fits : (unsynchronised : Bool) (id : List ℕ) → (length id ≡ 4) × Octets id
    → (length (if unsynchronised then 0 ∷ 0 ∷ 0 ∷ 0 ∷ [] else id) ≡ 4) × Octets (if unsynchronised then 0 ∷ 0 ∷ 0 ∷ 0 ∷ [] else id)
id-fits unsynchronised id e = grind (arith, four)

-- a reply to a request, with stamps of 64 bits
pub IsHeader-reply : (r : ReferenceState) (q : Outstanding) (origin receive transmit : Stamp) → FitsPacket r → IsHeader (query_fields q)
    → origin.0 < 2 ^ 64 → receive.0 < 2 ^ 64 → transmit.0 < 2 ^ 64 → IsHeader (reply_fields r (query_fields q) origin receive transmit)
IsHeader-reply r q origin receive transmit fits is origin_fits receive_fits transmit_fits = grind (arith, stratum-fits, id-fits)

-- a kiss code, and the transmit stamp of a kiss
code-fits : (kiss : Kiss) → (length (kiss_code kiss) ≡ 4) × Octets (kiss_code kiss)
code-fits kiss = grind (arith, four)

kiss-fits : (s : Stamp) → s.0 < 2 ^ 64 → (kiss_transmit s).0 < 2 ^ 64
kiss-fits s fits = by_test (s.0 == 0)
  where
    by_test : (zeros : Bool) → (if zeros then record { 0 = 1 } else s).0 < 2 ^ 64
    by_test zeros = grind arith

-- a kiss to a request
pub IsHeader-kiss : (kiss : Kiss) (q : Outstanding) → IsHeader (query_fields q) → IsHeader (kiss_fields kiss (query_fields q))
IsHeader-kiss kiss q is = grind (arith, code-fits, kiss-fits)

-- a request whose earlier exchange has stamps of 64 bits
pub IsHeader-query : (sampled : Option Exchange) (now : Moment) → IfSome sampled (λ e. (e.receive.0 < 2 ^ 64) × (e.arrival.0 < 2 ^ 64))
    → IsHeader (query_fields (record { transmit = transmit_of sampled now; earlier = sampled }))
IsHeader-query sampled now fit =
    let stamps = query-fits sampled now fit in
    record {
      leap = omega arith;
      version = omega arith;
      mode = omega arith;
      stratum = omega arith;
      poll = sfits_lit tt;
      precision = sfits_lit tt;
      root_delay = omega arith;
      root_dispersion = omega arith;
      reference_id = (refl, four 0 0 0 0 (omega arith) (omega arith) (omega arith) (omega arith));
      reference = omega arith;
      origin = stamps.0;
      receive = stamps.1;
      transmit = stamps.2;
    }
  where
    query-fits : (sampled : Option Exchange) (now : Moment) → IfSome sampled (λ e. (e.receive.0 < 2 ^ 64) × (e.arrival.0 < 2 ^ 64))
        → ((origin_of sampled).0 < 2 ^ 64) × ((receive_of sampled).0 < 2 ^ 64) × ((transmit_of sampled now).0 < 2 ^ 64)
    query-fits sampled now e = grind (arith, fresh-below)
