use Rattle.std.proofs.Common.{◌≡◌, refl, sym, ap, ◌∙◌, subst, arith}
use Rattle.ntp_packet.proofs.PublicLaws.{AreOctets}
use Rattle.std.specs.Prelude.{is_some}
use Rattle.ntp_client.specs.declared.taken.Taken.TheVariants as taken
use Rattle.ntp_client.specs.declared.taken.Distrust.TheVariants as distrust
use Rattle.ntp_client.proofs.{Samples.sample-read, AuthenticAnswers.unsynchronised-signed}
use Rattle.ntp_client.specs.Sample.{IsTimeReply}
use Rattle.ntp_client.proofs.follower.Follower.take.Goals as goal

-- a sample has a header
pub unwrap-header-requires : goal.unwrap-header-requires
unwrap-header-requires c =
    let is = sample-read c.self.inside.client c.args.octets.now c.args.now.clock c.in-Sample.sample
    (λ i. omega (arith, c.type_inv.octets i)) (sym c.take_packet-taken.ensures.first ∙ c.in-Sample.is) in
    ap is_some (c.take_packet-taken.ensures.header ∙ is.header)

-- by the header that the client judged, which is that of the reply
pub returns-in-Sample-clause-took : goal.returns-in-Sample-clause-took
returns-in-Sample-clause-took c =
    let is = sample-read c.self.inside.client c.args.octets.now c.args.now.clock c.in-Sample.sample
    (λ i. omega (arith, c.type_inv.octets i)) (sym c.take_packet-taken.ensures.first ∙ c.in-Sample.is) in
    let found = sym c.take_packet-taken.ensures.header ∙ c.unwrap-header.ensures in
    let some = sym is.header ∙ found in
    let same : is.given.reply.header ≡ c.unwrap-header.result = cc some in
    rw (c.learned_of-self-inside.ensures (subst IsTimeReply same is.given.time), ← c.look-is_set.ensures.looked, ← c.self.view_is, c.take_packet-taken.ensures.after, c.in-Sample.is, found, c.reference.ensures) refl

-- that reply is signed
pub returns-in-Sample-clause-forged : goal.returns-in-Sample-clause-forged
returns-in-Sample-clause-forged c = λ none.
    let is = sample-read c.self.inside.client c.args.octets.now c.args.now.clock c.in-Sample.sample
    (λ i. omega (arith, c.type_inv.octets i)) (sym c.take_packet-taken.ensures.first ∙ c.in-Sample.is) in
    absurd (none is.given.reply is.given.reads (rw (← c.look-is_set.ensures.key, ← c.look-is_set.ensures.number, ← c.self.view_is) is.given.signed))

-- and so is one of an unsynchronised clock
pub returns-in-Refused-Unsynchronised-clause-forged : goal.returns-in-Refused-Unsynchronised-clause-forged
returns-in-Refused-Unsynchronised-clause-forged c = λ none.
    let are : AreOctets c.args.octets.now = λ i. omega (arith, c.type_inv.octets i) in
    let why : c.in-Refused-Unsynchronised.field-0 ≡ distrust.Unsynchronised =
    rw c.in-Refused-Unsynchronised.is at c.in-Refused-Unsynchronised.field-0-is in
    let is = sym c.take_packet-taken.ensures.first ∙ c.in-Refused-Unsynchronised.is ∙ ap taken.Refused why in
    let signed = unsynchronised-signed c.self.inside.client c.args.octets.now c.args.now.clock are is in
    absurd (none signed.0 signed.1 (rw (← c.look-is_set.ensures.key, ← c.look-is_set.ensures.number, ← c.self.view_is) signed.2))
