-- One customer, as contracts see it. Its counts are of a kind that is a parameter, C: a tally in what the code keeps, a list of
-- windows in what an address had.
use Rattle.std.specs.Prelude.{◌≢◌, ℕ, ◌<◌, ◌≤◌, Bool, not, ◌==◌, Option, Some, None, is_some, option_map, IfSome, List, [], ◌∷◌, ◌++◌, length, map, filter, find, AllPairs}
use Rattle.std.specs.Option.{option_map_or}
use Rattle.ntp_customer.specs.Tally.{Tally, IsTally}
use Rattle.ntp_customer.specs.{declared.slot.Slot.Slot, Exchanges.AreSaved, declared.numbered_key.NumberedKey.NumberedKey}

-- how many keys a customer can have (profile)
abbrev pub most_keys : ℕ
most_keys = 2

-- the terms of an address that is enrolled: its keys with their numbers, the older one first, and how many signed queries in a row of
-- one window get the time (profile)
pub record Enrolment : Type 0 where
  pub keys : List NumberedKey
  pub budget : ℕ

-- an enrolment with one key (profile)
abbrev pub enrolment_of : NumberedKey → ℕ → Enrolment
enrolment_of key budget = record { keys = key ∷ []; budget = budget }

-- the key numbers of an enrolment (profile)
abbrev pub numbers_in : Enrolment → List ℕ
numbers_in e = map (λ k. k.number) e.keys

-- the key of an enrolment with a number, if it has one (profile)
abbrev pub held_in : Enrolment → ℕ → Option NumberedKey
held_in e number = find (λ k. k.number == number) e.keys

-- what holds of the keys of each enrolment: one or two, and no two have one number (profile)
pub record HasKeys (e : Enrolment) : Type 0 where
  pub some : 0 < length e.keys
  pub few : length e.keys ≤ most_keys
  pub apart : AllPairs (λ one other. one ≢ other) (numbers_in e)

-- what an address has while it is enrolled: its enrolment, the count of its signed queries, and its exchanges, oldest first. The code's
-- `Account`, and `Customer` below, have counts of one kind alone (profile)
pub record AccountOf (C : Type 0) : Type 0 where
  pub enrolment : Enrolment
  pub queries : C
  pub exchanges : List Slot

-- an address that was enrolled once: its account, and none after it is revoked; and the count of its refusals (profile)
pub record CustomerOf (C : Type 0) : Type 0 where
  pub account : Option (AccountOf C)
  pub refusals : C

-- what the code keeps of an account and of a customer: of its counts the tallies, and the last exchanges (profile)
abbrev pub Account : Type 0
Account = AccountOf Tally

abbrev pub CustomerState : Type 0
CustomerState = CustomerOf Tally

module _ {C : Type 0} where
  -- a customer at its enrolment, where this is the count of nothing: nothing is saved yet (profile)
  abbrev pub customer_from : C → Enrolment → CustomerOf C
  customer_from nothing e = record { account = Some (record { enrolment = e; queries = nothing; exchanges = [] }); refusals = nothing }

  -- a customer after it is revoked: its refusals stay counted (profile)
  abbrev pub revoked : CustomerOf C → CustomerOf C
  revoked c = record c { account = None }

  -- the enrolment of a customer, if it is enrolled (profile)
  abbrev pub enrolment_at : CustomerOf C → Option Enrolment
  enrolment_at c = option_map (λ a. a.enrolment) c.account

  -- whether a customer is enrolled (profile)
  abbrev pub is_enrolled : CustomerOf C → Bool
  is_enrolled c = is_some (enrolment_at c)

  -- the key numbers that a customer holds: none after it is revoked (profile)
  abbrev pub numbers_of : CustomerOf C → List ℕ
  numbers_of c = option_map_or numbers_in (enrolment_at c) []

  -- how many signed queries of a window get the time: none of a customer that is not enrolled (profile)
  abbrev pub budget_of : CustomerOf C → ℕ
  budget_of c = option_map_or (λ e. e.budget) (enrolment_at c) 0

  -- the exchanges of a customer: none after it is revoked (profile)
  abbrev pub exchanges_of : CustomerOf C → List Slot
  exchanges_of c = option_map_or (λ a. a.exchanges) c.account []

  -- a customer with its account changed, if it has one (profile)
  abbrev pub changing : (AccountOf C → AccountOf C) → CustomerOf C → CustomerOf C
  changing change c = record c { account = option_map change c.account }

  -- a customer with these exchanges, if it is enrolled (profile)
  abbrev pub with_saved : CustomerOf C → List Slot → CustomerOf C
  with_saved c exchanges = changing (λ a. record a { exchanges = exchanges }) c

  -- a customer with its enrolment changed, if it is enrolled; all counts and exchanges stay (profile)
  abbrev pub with_terms : (Enrolment → Enrolment) → CustomerOf C → CustomerOf C
  with_terms change c = changing (λ a. record a { enrolment = change a.enrolment }) c

  -- a customer with this budget, with one key more, the newest, and without the key of a number (profile)
  abbrev pub rebudgeted : CustomerOf C → ℕ → CustomerOf C
  rebudgeted c budget = with_terms (λ e. record e { budget = budget }) c

  abbrev pub rolled_over : CustomerOf C → NumberedKey → CustomerOf C
  rolled_over c key = with_terms (λ e. record e { keys = e.keys ++ key ∷ [] }) c

  abbrev pub retired : CustomerOf C → ℕ → CustomerOf C
  retired c number = with_terms (λ e. record e { keys = filter (λ k. not (k.number == number)) e.keys }) c

-- what holds of each account: its keys have different numbers, its count is such as some queries leave, and its exchanges are apart (profile)
pub record IsAccount (a : Account) : Type 0 where
  pub keys : HasKeys a.enrolment
  pub queries : IsTally a.queries
  pub saved : AreSaved a.exchanges

-- what holds of each customer: its counts are from 1 to 65,536, or there are none; and of its account (profile)
pub record IsCustomer (c : CustomerState) : Type 0 where
  pub refusals : IsTally c.refusals
  pub account : IfSome c.account IsAccount
