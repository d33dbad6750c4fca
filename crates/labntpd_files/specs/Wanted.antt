-- The file of wanted customers.
use Rattle.std.specs.Prelude.{ℕ, nat_eq, List, [], ◌∷◌, ◌++◌, map, codes, Option, Some, None, Result, Ok}
use Rattle.std.specs.{List.IsDistinct, List.filter_map, Int.w32, Int.from_be_bytes, Int.NonZero.non_zero_u16_get}
use Rattle.std.specs.{Option.ok_or, Option.option_map, Option.option_map_or, Result.result_ok}
use Rattle.toml.specs.Data.{Items, no_items, item, Members, as_array, as_table}
use Rattle.ntp_packet.specs.FirstCase.{◌>>=◌}
use Rattle.ntp_admin.specs.Words.{address_in, algorithm_in}
use Rattle.labntpd_files.specs.{declared.wanted.WantedCustomer.WantedCustomer, declared.wanted.WantedKey.WantedKey}
use Rattle.labntpd_files.specs.declared.setting.Kind.TheVariants as k
use Rattle.labntpd_files.specs.Settings.{Fault, wanted, required, optional, word, or_default}
use Rattle.labntpd_files.specs.Values.{text_as, text_of, number_of, key_for}

-- a key with its number
abbrev pub key_in : Members → Result WantedKey Fault
key_in table = do
  number ← required (codes "number", k.Number) number_of table
  algorithm ← word (codes "algorithm", k.Algorithm) algorithm_in table
  key ← word (codes "key", k.Key) (key_for algorithm) table
  Ok (record { number = number; key = key })

-- a customer; none where something is wrong
abbrev pub customer_in : Members → Result WantedCustomer Fault
customer_in table = do
  address ← word (codes "address", k.Address) address_in table
  older ← key_in table
  newer_table ← optional (codes "newer", k.OptionalTable) as_table table
  newer ← option_map_or (λ second. key_in second >>= (λ key. Ok (Some key))) newer_table (Ok None)
  budget ← required (codes "budget", k.Number) number_of table
  name ← optional (codes "name", k.Name) (text_as (text_of k.Name)) table
  Ok (record { address = address; older = older; newer = newer; budget = budget; name = name })

-- customers in file order
abbrev pub customers_from : Items → Result (List WantedCustomer) Fault
customers_from no_items = Ok []
customers_from (item value others) = do
  table ← ok_or (as_table value) (wanted (codes "customer", k.Customers))
  first ← customer_in table
  rest ← customers_from others
  Ok (first ∷ rest)

-- the customers of a document
abbrev pub customers_in : Members → Result (List WantedCustomer) Fault
customers_in document = or_default no_items (optional (codes "customer", k.Customers) as_array document) >>= customers_from

-- the customers of a text, if it is a document and nothing is wrong with them
abbrev pub wanted_in : Option Members → Option (List WantedCustomer)
wanted_in None = None
wanted_in (Some document) = result_ok (customers_in document)

-- the numbers of the keys of customers: of each its own, then those of newer keys
abbrev pub key_numbers : List WantedCustomer → List ℕ
key_numbers customers =
    map (λ customer. non_zero_u16_get customer.older.number) customers
    ++ filter_map (λ customer. option_map (λ key. non_zero_u16_get key.number) customer.newer) customers

-- no two customers have one address, and no two keys one number
pub record AreDistinct (customers : List WantedCustomer) : Type 0 where
  pub addresses : IsDistinct nat_eq (map (λ customer. from_be_bytes w32 customer.address.0) customers)
  pub numbers : IsDistinct nat_eq (key_numbers customers)
