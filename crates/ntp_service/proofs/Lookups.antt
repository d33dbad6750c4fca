-- What a register answers after each change: at the address or the number that was changed, and at all others.
use Rattle.std.proofs.Common.{◌≡◌, ◌≢◌, ℕ, List, [], ◌∷◌, Option, Some, None, Contains, refl, sym, ap, ◌∙◌, ⊎_elim, arith, rules}
use Rattle.std.specs.{Option.option_map_or, FinMap.nat_cmp-IsAntisymmetric}
use Rattle.std.proofs.lemmas.Cmp.{nat_cmp_total}
use Rattle.ntp_service.specs.declared.address.Address.{Address}
use Rattle.ntp_customer.specs.Customer.{CustomerState, numbers_of}
use Rattle.ntp_service.specs.Registry.{Registry, customer_at, numbers_at, holder_of, with_customer, with_holder, without_holder, without_holders}
use Rattle.ntp_service.proofs.Keys.{get-insert-here, get-insert-there, get-remove-here, get-remove-there, insert-present, remove-insert}
use Rattle.ntp_service.proofs.AddressLaws.{address_cmp_total, address_cmp-IsAntisymmetric, same_or_other_number}
use Rattle.ntp_service.proofs.Members.{Contains-here, Contains-there, Contains-cases}

-- the numbers that an address has by its customer, if it has one
abbrev pub numbers_held : Option CustomerState → List ℕ
numbers_held o = option_map_or numbers_of o []

-- ---- a customer was written
module _ (r : Registry) (address : Address) (c : CustomerState) where
  pub customer_at-with_customer : customer_at (with_customer r address c) address ≡ Some c
  customer_at-with_customer = get-insert-here address_cmp_total address_cmp-IsAntisymmetric r.customers address c

  pub customer_at-with_customer-other : (other : Address) → other ≢ address
      → customer_at (with_customer r address c) other ≡ customer_at r other
  customer_at-with_customer-other other ne = get-insert-there address_cmp_total address_cmp-IsAntisymmetric r.customers address c other ne

  pub numbers_at-with_customer : numbers_at (with_customer r address c) address ≡ numbers_of c
  numbers_at-with_customer = ap numbers_held customer_at-with_customer

  pub numbers_at-with_customer-other : (other : Address) → other ≢ address
      → numbers_at (with_customer r address c) other ≡ numbers_at r other
  numbers_at-with_customer-other other ne = ap numbers_held (customer_at-with_customer-other other ne)

  -- to write what is there
  pub with_customer-present : customer_at r address ≡ Some c → with_customer r address c ≡ r
  with_customer-present there = grind (arith, insert-present, address_cmp_total, address_cmp-IsAntisymmetric)

-- ---- a holder was put in or taken out
module _ (r : Registry) (number : ℕ) where
  pub holder_of-with_holder : (address : Address) → holder_of (with_holder r number address) number ≡ Some address
  holder_of-with_holder address = get-insert-here nat_cmp_total nat_cmp-IsAntisymmetric r.holders number address

  pub holder_of-with_holder-other : (address : Address) (other : ℕ) → other ≢ number
      → holder_of (with_holder r number address) other ≡ holder_of r other
  holder_of-with_holder-other address other ne = get-insert-there nat_cmp_total nat_cmp-IsAntisymmetric r.holders number address other ne

  pub holder_of-without_holder : holder_of (without_holder r number) number ≡ None
  holder_of-without_holder = get-remove-here nat_cmp_total nat_cmp-IsAntisymmetric r.holders number

  pub holder_of-without_holder-other : (other : ℕ) → other ≢ number → holder_of (without_holder r number) other ≡ holder_of r other
  holder_of-without_holder-other other ne = get-remove-there nat_cmp_total nat_cmp-IsAntisymmetric r.holders number other ne

  -- to take a holder out again
  pub without_holder-with_holder : (address : Address) → holder_of r number ≡ None
      → without_holder (with_holder r number address) number ≡ r
  without_holder-with_holder address free = search (rules, remove-insert, nat_cmp_total)

-- ---- numbers were freed
-- a number that is free stays so
stays-free : (r : Registry) (numbers : List ℕ) (n : ℕ) → holder_of r n ≡ None → holder_of (without_holders r numbers) n ≡ None
stays-free r [] n free = free
stays-free r (m ∷ ms) n free = stays-free (without_holder r m) ms n (⊎_elim
    (λ e. ap (holder_of (without_holder r m)) e ∙ holder_of-without_holder r m)
    (λ ne. holder_of-without_holder-other r m n ne ∙ free)
    (same_or_other_number n m))

pub holder_of-without_holders : (r : Registry) (numbers : List ℕ) (n : ℕ) → Contains numbers n
    → holder_of (without_holders r numbers) n ≡ None
holder_of-without_holders r [] n is = absurd (omega (arith, is.1))
holder_of-without_holders r (m ∷ ms) n is = ⊎_elim
    (λ e. stays-free (without_holder r m) ms n (ap (holder_of (without_holder r m)) (sym e) ∙ holder_of-without_holder r m))
    (λ more. holder_of-without_holders (without_holder r m) ms n more)
    (Contains-cases m ms n is)

pub holder_of-without_holders-other : (r : Registry) (numbers : List ℕ) (n : ℕ) → (Contains numbers n → ⊥)
    → holder_of (without_holders r numbers) n ≡ holder_of r n
holder_of-without_holders-other r [] n never = refl
holder_of-without_holders-other r (m ∷ ms) n never =
    holder_of-without_holders-other (without_holder r m) ms n (λ is. never (Contains-there m ms n is))
    ∙ holder_of-without_holder-other r m n (λ e. never (Contains-here m ms n (sym e)))
