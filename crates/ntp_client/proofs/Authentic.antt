-- What only an authentic reply is taken for.
use Rattle.std.proofs.Common.{◌≡◌, ◌≢◌, ℕ, ◌≤◌, Bool, true, false, ◌==◌, List, Some, Result, Ok, refl, ap, ◌∙◌, sym, subst, true≢false, arith}
use Rattle.std.specs.Prelude.{not, if◌then◌else◌}
use Rattle.std.proofs.{lemmas.Bool.eqb-true, lemmas.Bool.ne_eqb, lemmas.Bool.Decides.nat_tests}
use Rattle.ntp_packet.specs.{declared.moment.Moment.Moment, Header.HeaderFields, Request.RequestValue, Request.IsRequest}
use Rattle.ntp_packet.specs.{FirstCase.◌>>◌, FirstCase.provided, FirstCase.decided, Tail.TailValue, Tail.NoTail, Tail.BareTail}
use Rattle.ntp_packet.specs.Tail.{MacTail}
use Rattle.ntp_packet.proofs.PublicLaws.{after-provided, after-ok_or, after-map_err, AreOctets}
use Rattle.ntp_mac.specs.{Reading.reading_of, Signed.IsSigned}
use Rattle.ntp_mac.proofs.PublicLaws.{Reads, Reads-reading_of, is-signed}
use Rattle.ntp_client.specs.{declared.exchange.Outstanding.Outstanding, declared.pairing.Pairing.Pairing}
use Rattle.ntp_client.specs.{declared.sample.Sample.Sample, declared.taken.Taken.Taken, State.ClientState}
use Rattle.ntp_client.specs.{Pairing.pairing_of, Pairing.sample_of, Sample.IsTimeReply, Judging.authentic_steps}
use Rattle.ntp_client.specs.declared.taken.Taken.TheVariants as taken
use Rattle.ntp_client.specs.declared.taken.Distrust.TheVariants as distrust
use Rattle.ntp_client.specs.Taking.{is_synchronised, lacks_stamp, with_mac, taken_for}

-- what is taken for this has a MAC that was found right
abbrev pub is_told : Taken → Bool
is_told (taken.Sample s) = true
is_told (taken.Refused distrust.Unsynchronised) = true
is_told _ = false

-- octets are an authentic reply to a client's request, which is taken for this
pub record IsAuthentic (c : ClientState) (octets : List ℕ) (at : Moment) (t : Taken) : Type 0 where
  pub asked : Outstanding
  pub outstanding : c.outstanding ≡ Some asked
  pub reply : RequestValue
  pub reads : IsRequest octets reply
  pub mode : reply.header.mode ≡ 4
  pub version : reply.header.version ≡ 4
  pub pairing : Pairing
  pub pairs : pairing_of asked reply.header.origin ≡ Some pairing
  pub signed : IsSigned c.key c.number reply
  pub told : decided (authentic_steps pairing reply.header (sample_of asked pairing reply.header at)) ≡ t

-- it is nothing else that something may be taken for
untold : (e t : Taken) → is_told t ≡ true → is_told e ≡ false → e ≢ t
untold e t told plain same = true≢false (sym told ∙ ap is_told (sym same) ∙ plain)

-- nor either of two such
untold-either : (test : Bool) (one other t : Taken) → is_told t ≡ true → is_told one ≡ false → is_told other ≡ false
    → (if test then one else other) ≢ t
untold-either true one other t told first second = untold one t told first
untold-either false one other t told first second = untold other t told second

-- what has no MAC is taken for none of that
after-with_mac : (r : RequestValue) (p : Pairing) (tail : TailValue) (others : Result Taken Taken) (t : Taken) → is_told t ≡ true
    → decided (with_mac r p tail >> others) ≡ t → decided others ≡ t
after-with_mac r p NoTail others t told is = absurd (untold-either _ taken.Deny (taken.Refused distrust.Unsigned) t told refl refl is)
after-with_mac r p (BareTail number) others t told is =
    absurd (untold-either _ taken.Nak (taken.Refused distrust.Unsigned) t told refl refl is)
after-with_mac r p (MacTail number digest) others t told is = is

pub authentic : (c : ClientState) (octets : List ℕ) (at : Moment) (t : Taken) → AreOctets octets → is_told t ≡ true
    → taken_for c octets at ≡ t → IsAuthentic c octets at t
authentic c octets at t are told is =
    let other : (e : Taken) → is_told e ≡ false → e ≢ t = λ e plain. untold e t told plain in
    let asked = after-ok_or c.outstanding _ t _ (other _ refl) is in
    let read = after-map_err (reading_of octets) _ t _ (λ fault. other _ refl) asked.2 in
    let mode = after-provided (read.0.header.mode == 4) _ t _ (other _ refl) read.2 in
    let version = after-provided (read.0.header.version == 4) _ t _ (other _ refl) mode.1 in
    let paired = after-ok_or (pairing_of asked.0 read.0.header.origin) _ t _ (other _ refl) version.1 in
    let mac = after-with_mac read.0 paired.0 read.0.tail _ t told paired.2 in
    let signed = after-provided _ _ t _ (other _ refl) mac in
    let reads : Reads octets (Ok read.0) = subst (Reads octets) read.1 (Reads-reading_of octets are) in
    record {
      asked = asked.0;
      outstanding = asked.1;
      reply = read.0;
      reads = reads;
      mode = eqb-true read.0.header.mode 4 mode.0;
      version = eqb-true read.0.header.version 4 version.0;
      pairing = paired.0;
      pairs = paired.1;
      signed = (is-signed c.key c.number read.0).0 signed.0;
      told = signed.1;
    }

-- no refusal and no kiss is left
none-applies : (kiss synchronised lacking : Bool) (x s : Sample)
    → decided (provided (not kiss) taken.Rate >> (provided synchronised (taken.Refused distrust.Unsynchronised)
    >> (provided (not lacking) (taken.Refused distrust.Stamps) >> Ok (taken.Sample x)))) ≡ taken.Sample s
    → (synchronised ≡ true) × (lacking ≡ false) × (x ≡ s)
none-applies kiss synchronised lacking x s e = grind arith

-- a clock that is synchronised
synchronised : (leap stratum : ℕ) → is_synchronised leap stratum ≡ true → (leap ≢ 3) × (1 ≤ stratum) × (stratum ≤ 15)
synchronised leap stratum is = (grind (arith, nat_tests), grind (arith, nat_tests), grind (arith, nat_tests))

-- stamps of known time
stamped : (h : HeaderFields) → lacks_stamp h ≡ false → (h.receive.0 ≢ 0) × (h.transmit.0 ≢ 0)
stamped h is = (grind (arith, nat_tests), grind (arith, nat_tests))

-- where it is taken for a sample, it is a time reply
pub authentic-sample : (p : Pairing) (h : HeaderFields) (x s : Sample) → h.mode ≡ 4 → h.version ≡ 4
    → decided (authentic_steps p h x) ≡ taken.Sample s → IsTimeReply h × (x ≡ s)
authentic-sample p h x s mode version is = grind (arith, none-applies, synchronised, stamped)

-- a time reply is taken for a sample
pub time-taken : (p : Pairing) (h : HeaderFields) (x : Sample) → IsTimeReply h → decided (authentic_steps p h x) ≡ taken.Sample x
time-taken p h x is = grind (arith, nat_tests, ne_eqb)
