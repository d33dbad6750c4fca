use Rattle.std.proofs.Common.{sym, ap, ◌∙◌, arith}
use Rattle.std.specs.Prelude.{is_some}
use Rattle.ntp_packet.proofs.PublicLaws.{AreOctets}
use Rattle.ntp_client.proofs.PublicLaws.{sample-read}
use Rattle.ntp_query.proofs.outcome.hear.Goals as goal

-- a sample has a header
pub unwrap-requires : goal.unwrap-requires
unwrap-requires c =
    let are : AreOctets c.args.octets.now = λ i. omega (arith, c.type_inv.octets i) in
    let is = sample-read c.args.client.now c.args.octets.now c.args.at c.in-Sample.sample are
    (sym c.take_packet-taken.ensures.first ∙ c.in-Sample.is) in
    ap is_some (c.take_packet-taken.ensures.header ∙ is.header)
