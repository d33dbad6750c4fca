use Rattle.std.proofs.Common.{◌≡◌, Some, sym, ap, ◌∙◌, arith}
use Rattle.ntp_mac.proofs.PublicLaws.{answers-so}
use Rattle.ntp_packet.proofs.PublicLaws.{AreOctets}
use Rattle.ntp_client.specs.State.{IsClient}
use Rattle.ntp_client.proofs.{Takings.read-taken, Takings.header-taken, Samples.sample-given, Samples.given-taken}
use Rattle.ntp_client.proofs.client.Client.take_packet.Goals as goal

pub returns-in-Ok-clause-first : goal.returns-in-Ok-clause-first
returns-in-Ok-clause-first c =
    let are : AreOctets c.args.octets.now = λ i. omega (arith, c.type_inv.octets i) in
    let is = answers-so c.args.octets.now c.read_request.result are c.read_request.ensures.only c.read_request.ensures.exact in
    let there : c.args.self.now.outstanding ≡ Some c.in-Some.asked = rw (← c.self.view_is) c.in-Some.is in
    c.take_reply.ensures.first ∙ sym (read-taken c.args.self.now c.in-Some.asked c.args.octets.now _ c.args.at there (sym is ∙ c.in-Ok.is))

pub returns-in-Ok-clause-header : goal.returns-in-Ok-clause-header
returns-in-Ok-clause-header c =
    let is = answers-so c.args.octets.now c.read_request.result (λ i. omega (arith, c.type_inv.octets i)) c.read_request.ensures.only c.read_request.ensures.exact in
    ap (λ r. Some r.header) c.reply.view_is
    ∙ sym (header-taken c.args.self.now c.in-Some.asked c.args.octets.now _ (rw (← c.self.view_is) c.in-Some.is) (sym is ∙ c.in-Ok.is))

pub returns-in-Ok-clause-sample : goal.returns-in-Ok-clause-sample
returns-in-Ok-clause-sample c = λ s.
    let are : AreOctets c.args.octets.now = λ i. omega (arith, c.type_inv.octets i) in
    let first = returns-in-Ok-clause-first c in
    let client = c.args.self.now in
    let is_client : IsClient client = rw (← c.self.view_is) c.self.invariant in (
      λ is. sample-given client c.args.octets.now c.args.at s are (sym first ∙ is),
      λ given. first ∙ given-taken client c.args.octets.now c.args.at s is_client are given,
    )

pub returns-in-Ok-clause-after : goal.returns-in-Ok-clause-after
returns-in-Ok-clause-after c =
    let are : AreOctets c.args.octets.now = λ i. omega (arith, c.type_inv.octets i) in
    let is = answers-so c.args.octets.now c.read_request.result are c.read_request.ensures.only c.read_request.ensures.exact in
    c.take_reply.ensures.after c.args.octets.now (sym is ∙ c.in-Ok.is)

pub returns-in-Err-clause-first : goal.returns-in-Err-clause-first
returns-in-Err-clause-first c =
    let are : AreOctets c.args.octets.now = λ i. omega (arith, c.type_inv.octets i) in
    let is = answers-so c.args.octets.now c.read_request.result are c.read_request.ensures.only c.read_request.ensures.exact in
    let there : c.args.self.now.outstanding ≡ Some c.in-Some.asked = rw (← c.self.view_is) c.in-Some.is in
    rw (there, sym is ∙ c.in-Err.is) c.unread-in-Err.ensures.taken

pub returns-in-Err-clause-header : goal.returns-in-Err-clause-header
returns-in-Err-clause-header c =
    let is = answers-so c.args.octets.now c.read_request.result (λ i. omega (arith, c.type_inv.octets i)) c.read_request.ensures.only c.read_request.ensures.exact in
    c.unread-in-Err.ensures.header
    ∙ sym (header-taken c.args.self.now c.in-Some.asked c.args.octets.now _ (rw (← c.self.view_is) c.in-Some.is) (sym is ∙ c.in-Err.is))
