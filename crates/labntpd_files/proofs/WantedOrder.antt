-- Wanted customers read one after another, in file order.
use Rattle.std.proofs.Common.{◌≡◌, ℕ, ◌+◌, ◌<◌, List, [], ◌∷◌, ◌++◌, length, drop, get_or, Some, Ok, add-one}
use Rattle.toml.specs.{Data.Members, Data.as_table, View.view, View.items_view, declared.value.Value.Value}
use Rattle.toml.proofs.Views.{items_view-drop}
use Rattle.ntp_admin.proofs.PublicLaws.{behind, moved}
use Rattle.labntpd_files.specs.{declared.wanted.WantedCustomer.WantedCustomer, Wanted.customer_in, Wanted.customers_from}

pub behind-next : (done : List WantedCustomer) (place : ℕ) (vs : List Value) (v : Value) (table : Members) (c : WantedCustomer)
    → place < length vs → as_table (view (get_or vs place v)) ≡ Some table → customer_in table ≡ Ok c
    → behind done (customers_from (items_view (drop place vs)))
    ≡ behind (done ++ c ∷ []) (customers_from (items_view (drop (place + 1) vs)))
behind-next done place vs v table c inside is_table read =
    rw (items_view-drop vs place v inside, is_table, read, add-one) (moved done c _)
