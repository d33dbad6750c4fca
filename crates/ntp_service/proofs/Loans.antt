-- Loans that come back.
use Rattle.std.proofs.Common.{◌≡◌, Option, IsSome, arith}
use Rattle.std.specs.{Borrow.MutBor, Option.ghost_name_of, Option.option_copied_mut}
use borrow.Follows.Closed.{read_of}

-- a loan that may be none comes back by one function, and by another that is equal wherever there is a value
pub same_return_if : {D E : Type 0} (r : Option (MutBor E)) (o : Option E) → option_copied_mut r ≡ o
    → (f g : E → D) (v w : D) → (IsSome o → (x : E) → f x ≡ g x) → v ≡ w
    → read_of (ghost_name_of r) f v ≡ read_of (ghost_name_of r) g w
same_return_if r o e f g v w h p = grind arith
