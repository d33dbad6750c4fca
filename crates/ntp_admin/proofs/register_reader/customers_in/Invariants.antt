use Rattle.std.proofs.Common.{◌≡◌, drop}
use Rattle.toml.specs.View.{items_view}
use Rattle.ntp_admin.specs.RegisterFile.{customers_in}
use Rattle.ntp_admin.proofs.FileOrder.{behind}
use Rattle.ntp_admin.proofs.register_reader.customers_in.Given as goal

abbrev pub invariant-loop-place : goal.invariant-loop-place
invariant-loop-place l =
    customers_in 0 (items_view l.customers) ≡ behind l.commands.items (customers_in l.place (items_view (drop l.place l.customers)))
