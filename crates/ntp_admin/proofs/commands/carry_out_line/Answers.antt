use Rattle.std.proofs.Common.{◌≡◌, Some, refl, sym, ap, ◌∙◌, rules}
use Rattle.ntp_admin.specs.CommandsFile.{carried_out}
use Rattle.ntp_admin.proofs.LinesApplied.{AppliesLine-command, AppliesLine-fault, AppliesLine-none}
use Rattle.ntp_admin.proofs.commands.carry_out_line.Goals as goal

pub returns-in-Some-Ok : goal.returns-in-Some-Ok
returns-in-Some-Ok g c =
    let said : c.map_or_else-outcome.result ≡ carried_out c.command-result.result = search rules in
    AppliesLine-command g.O.Observer.heard _ c.args.most c.args.number c.args.line.now _ _ c.args.observer.now c.line.new.self
    c.in-Some-Ok.command _ _ (sym c.in-Some-Ok.ensures ∙ ap Some c.in-Some-Ok.field-0-is) said c.command-result.ensures.tells
    c.line.ensures

pub returns-in-Some-Err : goal.returns-in-Some-Err
returns-in-Some-Err g c =
    AppliesLine-fault g.O.Observer.heard _ c.args.most c.args.number c.args.line.now c.args.service.now _ c.args.observer.now
    c.line-in-Some-Err.new.self _ (sym c.in-Some-Err.ensures ∙ ap Some c.in-Some-Err.field-0-is) refl c.line-in-Some-Err.ensures

pub returns-in-None : goal.returns-in-None
returns-in-None g c =
    AppliesLine-none g.O.Observer.heard _ c.args.most c.args.number c.args.line.now c.args.service.now _ c.args.observer.now _
    (sym c.in-None.ensures) refl refl
