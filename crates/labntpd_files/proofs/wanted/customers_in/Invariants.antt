use Rattle.std.proofs.Common.{◌≡◌, drop}
use Rattle.toml.specs.View.{items_view}
use Rattle.labntpd_files.specs.Wanted.{customers_from}
use Rattle.ntp_admin.proofs.PublicLaws.{behind}
use Rattle.labntpd_files.proofs.wanted.customers_in.Given as goal

abbrev pub invariant-loop-value : goal.invariant-loop-value
invariant-loop-value l =
    customers_from (items_view l.value-items) ≡ behind l.customers.items (customers_from (items_view (drop l.value-index l.value-items)))
