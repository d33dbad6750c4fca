-- Lists that go on for ever with one value.
use Rattle.std.proofs.Common.{◌≡◌, ℕ, zero, suc, ◌+◌, List, [], ◌∷◌, ◌++◌, drop, refl, ap, ◌∙◌, arith}
use Rattle.ntp_port.specs.Serving.{firsts}

-- what comes behind the end is one value, however much was left out before
firsts-drop-nil : {X : Type 0} (behind : X) (n m : ℕ) → firsts behind m (drop n []) ≡ firsts behind m []
firsts-drop-nil behind n m = grind arith

pub firsts-add : {X : Type 0} (behind : X) (n m : ℕ) (xs : List X)
    → firsts behind (n + m) xs ≡ firsts behind n xs ++ firsts behind m (drop n xs)
firsts-add behind zero m xs =
    let e : zero + m ≡ m = omega arith in rw e refl
firsts-add behind (suc n) m [] =
    let e : suc n + m ≡ suc (n + m) = omega arith in
    rw e (ap (λ l. behind ∷ l) (firsts-add behind n m [] ∙ ap (λ l. firsts behind n [] ++ l) (firsts-drop-nil behind n m)))
firsts-add behind (suc n) m (x ∷ xs) =
    let e : suc n + m ≡ suc (n + m) = omega arith in rw e (ap (λ l. x ∷ l) (firsts-add behind n m xs))
