-- Pasts, and what is kept of them.
use Rattle.std.proofs.Common.{◌≡◌, ℕ, List, [], ◌∷◌, ◌++◌, Some, None, refl, sym, arith}
use Rattle.std.specs.Option.{option_map_or}
use Rattle.ntp_customer.specs.Tally.{Tally, tally}
use Rattle.ntp_customer.proofs.{Tallies.tally-nil, Customers.by_customer, Customers.with_queries}
use Rattle.ntp_customer.specs.Customer.{AccountOf, CustomerState, changing, enrolment_at}
use Rattle.ntp_customer.specs.Past.{Past, queries_in, with_query, short}

-- a past is that of an address that is not enrolled now, or of one that is
pub by_past : (P : Past → Type 0) → ((refusals : List ℕ) → P (record { account = None; refusals = refusals }))
    → ((a : AccountOf (List ℕ)) (refusals : List ℕ) → P (record { account = Some a; refusals = refusals }))
    → (past : Past) → P past
by_past = by_customer

-- the enrolment is kept
pub enrolment_at-short : (past : Past) → enrolment_at (short past) ≡ enrolment_at past
enrolment_at-short = by_past _ (λ refusals. refl) (λ a refusals. refl)

-- the tally of the signed queries of a customer
abbrev pub queries_kept : CustomerState → Tally
queries_kept c = option_map_or (λ a. a.queries) c.account None

-- which is that of the windows
pub queries-short : (past : Past) → queries_kept (short past) ≡ tally (queries_in past)
queries-short = by_past _ (λ refusals. sym tally-nil) (λ a refusals. refl)

-- a signed query more in the past is one more in the tally
pub short-with_query : (past : Past) (w : ℕ)
    → changing (λ a. with_queries a (tally (queries_in past ++ w ∷ []))) (short past) ≡ short (with_query past w)
short-with_query past w = grind (arith, by_past, with_queries)
