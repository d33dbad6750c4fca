-- Octets are taken for a sample exactly where they give one.
use Rattle.std.proofs.Common.{◌≡◌, ℕ, List, Some, Ok, inl, inr, refl, sym, ap, ◌∙◌}
use Rattle.ntp_packet.specs.{declared.moment.Moment.Moment, FirstCase.decided}
use Rattle.ntp_packet.proofs.PublicLaws.{AreOctets}
use Rattle.ntp_mac.proofs.PublicLaws.{only-reading_of}
use Rattle.ntp_client.specs.declared.pairing.Pairing.{Pairing, TheVariants.Basic, TheVariants.Interleaved}
use Rattle.ntp_client.specs.{declared.sample.Sample.Sample, State.ClientState, State.IsClient, Pairing.pairing_of}
use Rattle.ntp_client.specs.{Pairing.sample_of, Sample.IsSample, Taking.taken_for, Taking.header_taken}
use Rattle.ntp_client.specs.declared.taken.Taken.TheVariants as taken
use Rattle.ntp_client.proofs.Pairings.{sample-pairs, basic-pairing, interleaved-pairing}
use Rattle.ntp_client.proofs.Authentic.{authentic, authentic-sample, time-taken}
use Rattle.ntp_client.proofs.Takings.{read-taken, header-taken, paired-taken, signed-taken}

-- octets that are taken for a sample give the client that one
pub sample-given : (c : ClientState) (octets : List ℕ) (at : Moment) (s : Sample) → AreOctets octets
    → taken_for c octets at ≡ taken.Sample s → IsSample c octets at s
sample-given c octets at s are is =
    let a = authentic c octets at (taken.Sample s) are refl is in
    let time = authentic-sample a.pairing a.reply.header (sample_of a.asked a.pairing a.reply.header at) s a.mode a.version a.told in
    record {
      asked = a.asked;
      outstanding = a.outstanding;
      reply = a.reply;
      reads = a.reads;
      time = time.0;
      signed = a.signed;
      pairs = sample-pairs a.asked a.reply.header at a.pairing s a.pairs time.1;
    }

-- a sample that octets give the client, and that the header which it judged is that of the reply
pub record SampleRead (c : ClientState) (octets : List ℕ) (at : Moment) (s : Sample) : Type 0 where
  pub given : IsSample c octets at s
  pub header : header_taken c octets ≡ Some given.reply.header

-- octets that are taken for a sample give the client that one, by the header that it judged
pub sample-read : (c : ClientState) (octets : List ℕ) (at : Moment) (s : Sample) → AreOctets octets
    → taken_for c octets at ≡ taken.Sample s → SampleRead c octets at s
sample-read c octets at s are is =
    let given = sample-given c octets at s are is in
    let read = sym (only-reading_of octets (Ok given.reply) are given.reads) in
    record { given = given; header = header-taken c given.asked octets (Ok given.reply) given.outstanding read }

-- and a client takes octets for the sample that they give it
pub given-taken : (c : ClientState) (octets : List ℕ) (at : Moment) (s : Sample) → IsClient c → AreOctets octets
    → IsSample c octets at s → taken_for c octets at ≡ taken.Sample s
given-taken c octets at s client are is = elim is.pairs [
  | inl b ↦ paired Basic (basic-pairing is.asked is.reply.header.origin b.origin) b.stamps
  | inr i ↦ paired (Interleaved i.earlier)
      (interleaved-pairing is.asked i.earlier is.reply.header.origin i.carried
      ((client.outstanding is.asked is.outstanding).apart i.earlier i.carried) i.origin)
      i.stamps
]
  where
    paired : (p : Pairing) → pairing_of is.asked is.reply.header.origin ≡ Some p → s ≡ sample_of is.asked p is.reply.header at
        → taken_for c octets at ≡ taken.Sample s
    paired p found same =
        read-taken c is.asked octets is.reply at is.outstanding (sym (only-reading_of octets (Ok is.reply) are is.reads))
        ∙ ap decided (paired-taken c.key c.number is.asked is.reply at p is.time.mode is.time.version found
        ∙ signed-taken c.key c.number p is.reply (sample_of is.asked p is.reply.header at) is.signed)
        ∙ time-taken p is.reply.header (sample_of is.asked p is.reply.header at) is.time ∙ ap taken.Sample (sym same)
