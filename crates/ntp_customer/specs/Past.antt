-- What an address had since it was enrolled last: all windows, and all exchanges; and what is kept of it.
use Rattle.std.specs.Prelude.{ℕ, List, [], ◌∷◌, ◌++◌, option_map}
use Rattle.std.specs.Option.{option_map_or}
use Rattle.ntp_customer.specs.{Tally.tally, Exchanges.recent}
use Rattle.ntp_customer.specs.Customer.{CustomerOf, CustomerState, changing}

-- the past of an address that was enrolled once: the windows of its refusals since it was enrolled last, and while it is enrolled its
-- enrolment, the windows of all its signed queries and all its exchanges since then. A list has the oldest first (profile)
abbrev pub Past : Type 0
Past = CustomerOf (List ℕ)

-- the windows of all signed queries since the address was enrolled (profile)
abbrev pub queries_in : Past → List ℕ
queries_in past = option_map_or (λ a. a.queries) past.account []

-- the past with one refusal more, and with one signed query more, in a window (profile)
abbrev pub with_refusal : Past → ℕ → Past
with_refusal past w = record past { refusals = past.refusals ++ w ∷ [] }

abbrev pub with_query : Past → ℕ → Past
with_query past w = changing (λ a. record a { queries = a.queries ++ w ∷ [] }) past

-- what is kept of a past: of windows the tally, and of exchanges the recent ones (profile)
abbrev pub short : Past → CustomerState
short past = record {
  account = option_map (λ a. record { enrolment = a.enrolment; queries = tally a.queries; exchanges = recent a.exchanges }) past.account;
  refusals = tally past.refusals;
}
