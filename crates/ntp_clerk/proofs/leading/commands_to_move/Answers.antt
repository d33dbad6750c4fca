use Rattle.std.proofs.Common.{[], ◌∷◌, subst}
use Rattle.ntp_service.specs.declared.command.Command.TheVariants.{Revoke}
use Rattle.ntp_clerk.specs.Leading.{Holds}
use Rattle.ntp_clerk.proofs.Doing.{leads-append, revoked-free}
use Rattle.ntp_clerk.proofs.leading.commands_to_move.Goals as goal

pub give-requires-clause-free : goal.give-requires-clause-free
give-requires-clause-free c = λ other n ne has.
    let revoked = c.in_ok-carry_out.ensures in
    revoked-free c.args.service.now c.carry_out.new.service c.args.from other n revoked.after revoked.agrees
    (subst (λ held. Holds held n) c.in-Some.ensures.terms has)

pub returns-clause-leads : goal.returns-clause-leads
returns-clause-leads c =
    let revoked = c.in_ok-carry_out.ensures in
    let moves = c.in_ok-give.ensures.moves in
    rw (moves.noted, revoked.noted, c.new-commands.ensures.items) (leads-append c.args.service.now c.carry_out.new.service c.give.new.service
    (Revoke c.args.from ∷ []) moves.more revoked.done.leads moves.done.leads)
