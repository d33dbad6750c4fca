use Rattle.std.proofs.Common.{ap, ◌∙◌}
use Rattle.std.specs.Prelude.{is_some}
use Rattle.ntp_service.specs.declared.command.Command.TheVariants as command
use Rattle.ntp_clerk.specs.Steps.{terms_after}
use Rattle.ntp_clerk.proofs.Revoking.{revoked}
use Rattle.ntp_clerk.proofs.leading.revoke.Goals as goal

pub returns : goal.returns
returns c =
    let first = c.in_ok-carry_out.ensures in
    let next = c.in_ok-carry_out-2.ensures in
    revoked c.args.service.now c.carry_out.new.service c.carry_out-2.new.service c.args.address _ _ c.args.commands.now.items c.carry_out.new.commands.items
    c.carry_out-2.new.commands.items first.done next.done first.noted next.noted c.requires (ap is_some first.done.here)
    (next.done.here ∙ ap (λ o. terms_after o (command.Revoke c.args.address)) first.done.here)
