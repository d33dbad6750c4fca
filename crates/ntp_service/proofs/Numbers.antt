-- The key numbers of a customer.
use Rattle.std.proofs.Common.{◌≡◌, ◌≢◌, ◌==◌, ℕ, Bool, true, false, not, cond, List, [], ◌∷◌, ◌++◌, Contains, is_some, map, filter, find, refl, sym, ◌∙◌, ⊎_elim, true≢false, arith}
use Rattle.std.specs.Prelude.{◌↔◌}
use Rattle.std.proofs.{lemmas.Bool.Decides.nat_tests, lemmas.List.map-append}
use Rattle.ntp_customer.specs.declared.numbered_key.NumberedKey.{NumberedKey}
use Rattle.ntp_customer.specs.Customer.{CustomerState, rolled_over, retired, is_enrolled, numbers_of}
use Rattle.ntp_customer.proofs.PublicLaws.{by_customer}
use Rattle.ntp_service.proofs.Members.{Contains-here, Contains-there, Contains-cases, Contains-none}

abbrev numbers : List NumberedKey → List ℕ
numbers keys = map (λ k. k.number) keys

-- a number that is found is one of them
pub found-number : (keys : List NumberedKey) (n : ℕ) → is_some (find (λ k. k.number == n) keys) ≡ true → Contains (numbers keys) n
found-number [] n is = absurd (true≢false (sym is))
found-number (k ∷ keys) n is = by_first (k.number == n) refl (found-number keys n)
  where
    by_first : (b : Bool) → (k.number == n) ≡ b → (is_some (find (λ k. k.number == n) keys) ≡ true → Contains (numbers keys) n)
        → Contains (numbers (k ∷ keys)) n
    by_first b e f = grind (arith, Contains-here, nat_tests, Contains-there)

-- one key more has its number behind the others
pub numbers-rolled_over : (c : CustomerState) (key : NumberedKey) → is_enrolled c ≡ true
    → numbers_of (rolled_over c key) ≡ numbers_of c ++ key.number ∷ []
numbers-rolled_over c key = grind (arith, by_customer, map-append)

module _ (number n : ℕ) where
  abbrev others : List NumberedKey → List NumberedKey
  others keys = filter (λ k. not (k.number == number)) keys

  -- a list of keys has this number after the keys of the other were taken
  abbrev IsLeft : List NumberedKey → List NumberedKey → Type 0
  IsLeft left keys = Contains (numbers left) n ↔ (Contains (numbers keys) n × (n ≢ number))

  left-more : (key : NumberedKey) (keys : List NumberedKey) → IsLeft (others keys) keys → (b : Bool) → (key.number == number) ≡ b
      → IsLeft (cond (not b) (key ∷ others keys) (others keys)) (key ∷ keys)
  left-more key keys rest true taken = (
    (λ is. (Contains-there key.number (numbers keys) n (rest.0 is).0, (rest.0 is).1)),
    (λ both. rest.1 (
      ⊎_elim
          (λ e. absurd (both.1 (sym e ∙ grind (arith, nat_tests))))
          (λ more. more)
          (Contains-cases key.number (numbers keys) n both.0),
      both.1,
    )),
  )
  left-more key keys rest false stays = (
    (λ is. ⊎_elim
        (λ e. (Contains-here key.number (numbers keys) n e, grind (arith, nat_tests)))
        (λ more. (Contains-there key.number (numbers keys) n (rest.0 more).0, (rest.0 more).1))
        (Contains-cases key.number (numbers (others keys)) n is)),
    (λ both. ⊎_elim
        (λ e. Contains-here key.number (numbers (others keys)) n e)
        (λ more. Contains-there key.number (numbers (others keys)) n (rest.1 (more, both.1)))
        (Contains-cases key.number (numbers keys) n both.0)),
  )

  left : (keys : List NumberedKey) → IsLeft (others keys) keys
  left [] = ((λ is. absurd (Contains-none n is)), (λ both. both.0))
  left (key ∷ keys) = left-more key keys (left keys) (key.number == number) refl

  -- after a key is taken its number is not held, and the others are
  pub numbers-retired : (c : CustomerState) → Contains (numbers_of (retired c number)) n ↔ (Contains (numbers_of c) n × (n ≢ number))
  numbers-retired = by_customer _ (λ refusals. left []) (λ a refusals. left a.enrolment.keys)
