-- The members of a list of numbers.
use Rattle.std.proofs.Common.{◌≡◌, ◌⊎◌, inl, inr, ℕ, suc, List, [], ◌∷◌, Contains, arith, ⊎_elim}
use Rattle.ntp_service.proofs.AddressLaws.{same_or_other_number}

pub Contains-here : (m : ℕ) (ms : List ℕ) (n : ℕ) → m ≡ n → Contains (m ∷ ms) n
Contains-here m ms n e = (0, omega arith, e)

pub Contains-there : (m : ℕ) (ms : List ℕ) (n : ℕ) → Contains ms n → Contains (m ∷ ms) n
Contains-there m ms n is = (suc is.0, omega (arith, is.1), is.2)

-- a member is the first or a later one
pub Contains-cases : (m : ℕ) (ms : List ℕ) (n : ℕ) → Contains (m ∷ ms) n → (m ≡ n) ⊎ Contains ms n
Contains-cases m ms n e = grind arith

pub Contains-none : (n : ℕ) → Contains [] n → ⊥
Contains-none n is = omega (arith, is.1)

pub Contains-one : (m n : ℕ) → Contains (m ∷ []) n → m ≡ n
Contains-one m n is = ⊎_elim (λ e. e) (λ none. absurd (Contains-none n none)) (Contains-cases m [] n is)

-- a number is a member, or not
pub is_member : (ms : List ℕ) (n : ℕ) → Contains ms n ⊎ (Contains ms n → ⊥)
is_member [] n = inr (Contains-none n)
is_member (m ∷ ms) n = ⊎_elim
    (λ e. inl (Contains-here m ms n e))
    (λ ne. ⊎_elim
    (λ more. inl (Contains-there m ms n more))
    (λ never. inr (λ is. ⊎_elim ne never (Contains-cases m ms n is)))
    (is_member ms n))
    (same_or_other_number m n)
