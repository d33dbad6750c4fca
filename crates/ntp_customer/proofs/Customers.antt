-- Customers by cases, and those that are not enrolled.
use Rattle.std.proofs.Common.{◌≡◌, ℕ, ◌==◌, false, [], ◌∷◌, ◌++◌, Option, Some, None, refl, true≢false, arith}
use Rattle.std.specs.Prelude.{not, filter}
use Rattle.ntp_customer.specs.declared.numbered_key.NumberedKey.{NumberedKey}
use Rattle.ntp_customer.specs.Customer.{Enrolment, AccountOf, CustomerOf, revoked, rebudgeted, is_enrolled, numbers_of}

-- an enrolment with one key more, and without the key of a number
abbrev pub with_key : Enrolment → NumberedKey → Enrolment
with_key e key = record e { keys = e.keys ++ key ∷ [] }

abbrev pub without_key : Enrolment → ℕ → Enrolment
without_key e number = record e { keys = filter (λ k. not (k.number == number)) e.keys }

module _ {C : Type 0} where
  -- an account with this count of signed queries, and a customer with this one of refusals
  abbrev pub with_queries : AccountOf C → C → AccountOf C
  with_queries a queries = record a { queries = queries }

  abbrev pub with_refusals : CustomerOf C → C → CustomerOf C
  with_refusals c refusals = record c { refusals = refusals }

  -- a customer is not enrolled, or it is
  pub by_customer : (P : CustomerOf C → Type 0) → ((refusals : C) → P (record { account = None; refusals = refusals }))
      → ((a : AccountOf C) (refusals : C) → P (record { account = Some a; refusals = refusals }))
      → (c : CustomerOf C) → P c
  by_customer P out enrolled c = by_account c.account
    where
      by_account : (o : Option (AccountOf C)) → P (record { account = o; refusals = c.refusals })
      by_account None = out c.refusals
      by_account (Some a) = enrolled a c.refusals

  -- to revoke a customer that is not enrolled
  pub revoked-absent : (c : CustomerOf C) → is_enrolled c ≡ false → revoked c ≡ c
  revoked-absent = by_customer _ (λ refusals out. refl) (λ a refusals out. absurd (true≢false out))

  -- another budget leaves the numbers
  pub numbers-rebudgeted : (c : CustomerOf C) (budget : ℕ) → numbers_of (rebudgeted c budget) ≡ numbers_of c
  numbers-rebudgeted c budget = grind (arith, by_customer)
