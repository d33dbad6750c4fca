-- The form of a register file: its keys, and the types of their values. What the texts say is another matter.
use Rattle.std.specs.Prelude.{ℕ, suc, ℤ, ◌==◌, if◌then◌else◌, List, codes, Option, Some, None}
use Rattle.toml.specs.Data.{Data, Items, no_items, Members, no_members, member, get_member, as_str, as_integer, as_array, as_table}
use Rattle.ntp_admin.specs.Words.{◌>>=◌}

-- how many keys a table has
abbrev pub key_count : Members → ℕ
key_count no_members = 0
key_count (member name value others) = suc (key_count others)

-- the text at a key
abbrev pub text_at : List ℕ → Members → Option (List ℕ)
text_at name table = get_member name table >>= as_str

-- the whole number at a key
abbrev pub whole_at : List ℕ → Members → Option ℤ
whole_at name table = get_member name table >>= as_integer

-- what a register file has: the text of its reference, and its customers
pub record Top : Type 0 where
  pub reference : List ℕ
  pub customers : Items

-- the customers: none where the reference is the only key, otherwise an array, which is the second key
abbrev pub customers_from : ℕ → Option Data → Option Items
customers_from keys None = if keys == 1 then Some no_items else None
customers_from keys (Some value) = if keys == 2 then as_array value else None

-- the top level: `reference`, a text, and it may have `customer`, an array; it has no other key
abbrev pub top_of : Members → Option Top
top_of table = do
  reference ← text_at (codes "reference") table
  customers ← customers_from (key_count table) (get_member (codes "customer") table)
  Some (record { reference = reference; customers = customers })

-- what a customer has; the code's `Entry` borrows its texts
pub record Entry : Type 0 where
  pub address : List ℕ
  pub number : ℤ
  pub algorithm : List ℕ
  pub key : List ℕ
  pub budget : ℤ

-- what a table has at the keys of a customer: three texts and two whole numbers
abbrev pub values_in : Members → Option Entry
values_in table = do
  address ← text_at (codes "address") table
  number ← whole_at (codes "number") table
  algorithm ← text_at (codes "algorithm") table
  key ← text_at (codes "key") table
  budget ← whole_at (codes "budget") table
  Some (record { address = address; number = number; algorithm = algorithm; key = key; budget = budget })

-- a customer: a table that has those five keys, and no other, since no key stands there twice
abbrev pub entry_of : Data → Option Entry
entry_of customer = do
  table ← as_table customer
  if key_count table == 5 then values_in table else None
