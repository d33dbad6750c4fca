use Rattle.std.proofs.Common.{refl, sym, ap, ◌∙◌, true, false}
use Rattle.ntp_reply.specs.Kind.{RefusedByNak, Signed}
use Rattle.ntp_reply.proofs.Answering.{as-kind, unknown-kind, tested-kind}
use Rattle.ntp_reply.proofs.Lengths.{mac-fits, signed-fits}
use Rattle.ntp_reply.proofs.deciding.answer_mac.Goals as goal

pub returns-in_default : goal.returns-in_default
returns-in_default g c =
    as-kind _ _ _ _ _ _ _ _ c.nak.ensures
    (unknown-kind c.args.request.now c.args.number c.requires.served c.requires.mode c.requires.mac _ c.requires.enrolled (c.in_default.ensures)
    ∙ ap (λ r. RefusedByNak r.header) (sym c.request.view_is))
    (mac-fits c.args.number c.args.request.now (rw c.request.view_is at c.request.invariant) c.requires.mac)

pub returns-then-verifies : goal.returns-then-verifies
returns-then-verifies g c =
    as-kind _ _ _ _ _ _ _ _ c.serve_signed.ensures
    (tested-kind c.args.request.now c.args.number c.requires.served c.requires.mode c.requires.mac _ c.requires.enrolled c.in-Some.found.now true (c.in-Some.ensures) (sym c.if-verifies.ensures.test)
    ∙ ap (λ r. Signed c.in-Some.found.now.key c.in-Some.found.now.number r.header) (sym c.request.view_is))
    (signed-fits _ _ c.args.request.now (rw c.request.view_is at c.request.invariant) (c.if-verifies.ensures.signed.0 refl))

pub returns-else-verifies : goal.returns-else-verifies
returns-else-verifies g c =
    as-kind _ _ _ _ _ _ _ _ c.nak-else-verifies.ensures
    (tested-kind c.args.request.now c.args.number c.requires.served c.requires.mode c.requires.mac _ c.requires.enrolled c.in-Some.found.now false (c.in-Some.ensures) (sym c.if-verifies.ensures.test)
    ∙ ap (λ r. RefusedByNak r.header) (sym c.request.view_is))
    (mac-fits c.args.number c.args.request.now (rw c.request.view_is at c.request.invariant) c.requires.mac)
