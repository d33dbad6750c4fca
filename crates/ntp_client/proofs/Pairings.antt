-- The pairing of a reply with a request, and the sample of it.
use Rattle.std.proofs.Common.{◌≡◌, ◌≢◌, ◌==◌, Option, Some, None, ◌⊎◌, inl, inr, refl, sym, ap, ◌∙◌, arith}
use Rattle.std.specs.Prelude.{option_and_then, if◌then◌else◌}
use Rattle.std.proofs.lemmas.Bool.{eqb-true, eq-eqb, ne_eqb}
use Rattle.ntp_packet.specs.{declared.stamp.Stamp.Stamp, declared.moment.Moment.Moment, Header.HeaderFields}
use Rattle.ntp_client.specs.declared.{exchange.Exchange.Exchange, exchange.Outstanding.Outstanding, pairing.Pairing.Pairing}
use Rattle.ntp_client.specs.declared.pairing.Pairing.TheVariants.{Basic, Interleaved}
use Rattle.ntp_client.specs.{declared.sample.Sample.Sample, Pairing.pairing_of, Pairing.sample_of, Sample.IsBasic}
use Rattle.ntp_client.specs.Sample.{IsInterleaved}

-- stamps of one number are one
same-stamp : (a b : Stamp) → a.0 ≡ b.0 → a ≡ b
same-stamp a b e = ap (λ n. record { 0 = n }) e

-- the pairing of a reply with the earlier exchange
abbrev earlier_pairing : Option Exchange → Stamp → Option Pairing
earlier_pairing earlier origin = option_and_then (λ e. if origin.0 == e.arrival.0 then Some (Interleaved e) else None) earlier

-- no pairing but with that, by its arrival
earlier-found : (earlier : Option Exchange) (origin : Stamp) (p : Pairing) → earlier_pairing earlier origin ≡ Some p
    → (e : Exchange) × (earlier ≡ Some e) × (origin ≡ e.arrival) × (p ≡ Interleaved e)
earlier-found earlier origin p f = grind (arith, same-stamp, eqb-true)

-- what a pairing tells of the origin
found-pairing : (q : Outstanding) (origin : Stamp) (p : Pairing) → pairing_of q origin ≡ Some p
    → ((origin ≡ q.transmit) × (p ≡ Basic)) ⊎ ((e : Exchange) × (q.earlier ≡ Some e) × (origin ≡ e.arrival) × (p ≡ Interleaved e))
found-pairing q origin p is = grind (arith, same-stamp, eqb-true, earlier-found)

-- the sample of a pairing is that of the request and the reply, or that of the earlier exchange
pub sample-pairs : (q : Outstanding) (h : HeaderFields) (at : Moment) (p : Pairing) (s : Sample) → pairing_of q h.origin ≡ Some p
    → sample_of q p h at ≡ s
    → IsBasic q h at s ⊎ IsInterleaved q h s
sample-pairs q h at p s is same = elim (found-pairing q h.origin p is) [
  | inl b ↦ inl (record { origin = b.0; stamps = sym same ∙ ap (λ p. sample_of q p h at) b.1 })
  | inr e ↦ inr (record { earlier = e.0; carried = e.1; origin = e.2; stamps = sym same ∙ ap (λ p. sample_of q p h at) e.3 })
]

-- a reply by the request's transmit stamp is paired with it
pub basic-pairing : (q : Outstanding) (origin : Stamp) → origin ≡ q.transmit → pairing_of q origin ≡ Some Basic
basic-pairing q origin is = rw (eq-eqb origin.0 q.transmit.0 (ap (λ (s : Stamp). s.0) is)) refl

-- one by the arrival of the earlier exchange is paired with that, where the request has not the same transmit stamp
pub interleaved-pairing : (q : Outstanding) (e : Exchange) (origin : Stamp) → q.earlier ≡ Some e → e.arrival ≢ q.transmit
    → origin ≡ e.arrival
    → pairing_of q origin ≡ Some (Interleaved e)
interleaved-pairing q e origin carried apart is =
    let no : origin.0 ≢ q.transmit.0 = λ same. apart (sym is ∙ same-stamp origin q.transmit same) in
    let yes : earlier_pairing (Some e) origin ≡ Some (Interleaved e) = rw (eq-eqb origin.0 e.arrival.0 (ap (λ (s : Stamp). s.0) is)) refl in
    rw (ne_eqb origin.0 q.transmit.0 no, carried) yes
