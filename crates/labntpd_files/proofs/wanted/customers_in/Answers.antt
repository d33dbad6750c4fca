use Rattle.std.proofs.Common.{◌≡◌, Some, ◌∷◌, [], ◌++◌, ◌∙◌, rules, arith}
use Rattle.toml.specs.{Data.as_table, View.view, View.table_view}
use Rattle.labntpd_files.proofs.WantedOrder.{behind-next}
use Rattle.labntpd_files.proofs.wanted.customers_in.Goals as goal

pub loop-value-preserved : goal.loop-value-preserved
loop-value-preserved c =
    let is_table : as_table (view c.value-item.result) ≡ Some (table_view c.in_ok-table.table.now) = search rules in
    let pushed : c.push.new.self.items ≡ c.loop-value.customers.items ++ c.in_ok-customer.customer ∷ [] = search rules in
    rw pushed (c.loop-value.invariant
    ∙ behind-next c.loop-value.customers.items c.loop-value.value-index c.in_ok-value-items.value-items.now c.value-item.result (table_view c.in_ok-table.table.now) c.in_ok-customer.customer
    (omega arith) (rw (← c.value-item.is) is_table) c.in_ok-customer.ensures)
