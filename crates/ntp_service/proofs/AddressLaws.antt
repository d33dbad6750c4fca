-- The laws of the order of addresses and of their `==`, and of those of numbers.
use Rattle.std.proofs.Common.{◌≡◌, ◌≢◌, ◌⊎◌, ℕ, List, nat_eq, ap, arith}
use Rattle.std.proofs.lemmas.Bool.Decides.{nat_tests}
use Rattle.std.proofs.lemmas.Cmp.{on_total, nat_list_cmp_total, nat_cmp_total}
use Rattle.std.specs.{Ordering.nat_cmp, Cmp.IsTotalOrder, Cmp.IsEquivalence}
use Rattle.std.specs.Cmp.Lexicographic.{texts_ties, on_texts_equal}
use Rattle.std.specs.FinMap.{IsAntisymmetric, slice_cmp-IsAntisymmetric, nat_cmp-IsAntisymmetric}
use Rattle.ntp_service.specs.{declared.address.Address.Address, Address.address_cmp, Address.address_eq}
use Rattle.ntp_service.proofs.{Keys.same_or_other, Entries.IsKeyOrder}

-- the address of these octets
abbrev address_of : List ℕ → Address
address_of octets = record { 0 = octets }

pub address_cmp_total : IsTotalOrder address_cmp
address_cmp_total = on_total (λ (a : Address). a.0) nat_list_cmp_total

-- addresses that tie are one
pub address_cmp-IsAntisymmetric : IsAntisymmetric address_cmp
address_cmp-IsAntisymmetric a b tie = ap address_of (slice_cmp-IsAntisymmetric nat_cmp-IsAntisymmetric a.0 b.0 tie)

-- addresses are such keys: their `==` is a tie
pub addresses : IsKeyOrder address_cmp address_eq
addresses = record {
  total = address_cmp_total;
  same = address_cmp-IsAntisymmetric;
  ties = λ a b. texts_ties a.0 b.0;
}

pub address_eq_equiv : IsEquivalence address_eq
address_eq_equiv = on_texts_equal (λ (a : Address). a.0)

-- and so are numbers
pub numbers : IsKeyOrder nat_cmp nat_eq
numbers = grind (arith, nat_cmp_total, nat_tests)

-- two addresses are one, or not
pub same_or_other_address : (a b : Address) → (a ≡ b) ⊎ (a ≢ b)
same_or_other_address a b = same_or_other address_cmp_total address_cmp-IsAntisymmetric a b

-- two numbers are one, or not
pub same_or_other_number : (m n : ℕ) → (m ≡ n) ⊎ (m ≢ n)
same_or_other_number m n = same_or_other nat_cmp_total nat_cmp-IsAntisymmetric m n
