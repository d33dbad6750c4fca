use Rattle.std.proofs.Common.{◌≡◌, ◌∷◌, [], ◌++◌, Ok, sym, ◌∙◌, rules, arith}
use Rattle.toml.specs.View.{view}
use Rattle.ntp_admin.specs.RegisterFile.{customer_in}
use Rattle.ntp_admin.proofs.FileOrder.{behind-next}
use Rattle.ntp_admin.proofs.register_reader.customers_in.Goals as goal

pub loop-place-preserved : goal.loop-place-preserved
loop-place-preserved c =
    let read : customer_in c.loop-place.place (view c.index-customers-place.result) ≡ Ok c.in_ok-command.command =
    sym c.customer_in.ensures ∙ c.in_ok-command.was in
    let pushed : c.push.new.self.items ≡ c.loop-place.commands.items ++ c.in_ok-command.command ∷ [] = search rules in
    rw pushed (c.loop-place.invariant
    ∙ behind-next c.loop-place.commands.items c.loop-place.place c.args.customers.now c.index-customers-place.result c.in_ok-command.command
    (omega arith) (rw (← c.index-customers-place.is) read))
