-- What is read one after another, in file order; customers of a register.
use Rattle.std.proofs.Common.{◌≡◌, ℕ, ◌+◌, ◌<◌, List, [], ◌∷◌, ◌++◌, length, drop, get_or, Result, Ok, Err, refl, sym, ap, append_assoc, arith}
use Rattle.toml.specs.{View.view, View.items_view, declared.value.Value.Value}
use Rattle.toml.proofs.Views.{items_view-drop}
use Rattle.ntp_service.specs.declared.command.Command.{Command}
use Rattle.ntp_admin.specs.{declared.fault.RegisterFault.RegisterFault, RegisterFile.customer_in, RegisterFile.customers_in}
use Rattle.ntp_packet.specs.FirstCase.{◌>>=◌}

-- those that are left, behind those that were read
abbrev pub behind : {X E : Type 0} → List X → Result (List X) E → Result (List X) E
behind done (Ok rest) = Ok (done ++ rest)
behind done (Err why) = Err why

-- one more was read
pub moved : {X E : Type 0} (done : List X) (x : X) (left : Result (List X) E)
    → behind done (left >>= (λ rest. Ok (x ∷ rest))) ≡ behind (done ++ x ∷ []) left
moved done x (Ok rest) = ap Ok (sym (append_assoc done (x ∷ []) rest))
moved done x (Err why) = refl

-- the next customer gives a command
pub behind-next : (done : List Command) (place : ℕ) (vs : List Value) (v : Value) (c : Command)
    → place < length vs → customer_in place (view (get_or vs place v)) ≡ Ok c
    → behind done (customers_in place (items_view (drop place vs)))
    ≡ behind (done ++ c ∷ []) (customers_in (place + 1) (items_view (drop (place + 1) vs)))
behind-next done place vs v c inside read = grind (arith, items_view-drop, moved)
