use Rattle.std.proofs.Common.{sym, ap, ◌∙◌, arith}
use Rattle.ntp_packet.specs.Request.{RequestValue}
use Rattle.ntp_packet.proofs.PublicLaws.{AreOctets}
use Rattle.ntp_mac.proofs.PublicLaws.{answers-so}
use Rattle.ntp_query.specs.Asker.{judged, judged_as_read, heard_by}
use Rattle.ntp_query.proofs.asker.Asker.hear.Goals as goal

pub returns-in-Ok-clause-outcome : goal.returns-in-Ok-clause-outcome
returns-in-Ok-clause-outcome c =
    let are : AreOctets c.args.octets.now = λ i. omega (arith, c.type_inv.octets i) in
    let is = answers-so c.args.octets.now c.read_request.result are c.read_request.ensures.only c.read_request.ensures.exact in
    c.judge.ensures ∙ ap (λ (r : RequestValue). judged c.in-Unsigned.transmit r.header c.args.at) c.reply.view_is
    ∙ ap (judged_as_read c.in-Unsigned.transmit c.args.at) (sym c.in-Ok.is ∙ is)
    ∙ sym (ap (λ asker. heard_by asker c.args.octets.now c.args.at) c.in-Unsigned.is)

pub returns-in-Err-clause-outcome : goal.returns-in-Err-clause-outcome
returns-in-Err-clause-outcome c =
    let are : AreOctets c.args.octets.now = λ i. omega (arith, c.type_inv.octets i) in
    let is = answers-so c.args.octets.now c.read_request.result are c.read_request.ensures.only c.read_request.ensures.exact in
    ap (judged_as_read c.in-Unsigned.transmit c.args.at) (sym c.in-Err.is ∙ is)
    ∙ sym (ap (λ asker. heard_by asker c.args.octets.now c.args.at) c.in-Unsigned.is)
