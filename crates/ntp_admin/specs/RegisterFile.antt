-- What a register file says, or the first fault in it: each step gives a part of it, or the file's fault.
use Rattle.std.specs.Prelude.{ℕ, suc, ℤ, pos, negsuc, nat_le, if◌then◌else◌, List, [], ◌∷◌, Option, None, Result, Ok}
use Rattle.std.specs.{Option.ok_or, declared.num.NonZeroU16.NonZeroU16}
use Rattle.toml.specs.Data.{Data, Items, no_items, item}
use Rattle.toml.specs.Parse.{parse_document}
use Rattle.ntp_packet.specs.FirstCase.{◌>>=◌, map_err}
use Rattle.ntp_admin.specs.Words.{non_zero, address_in, algorithm_in, key_in, reference_in}
use Rattle.ntp_admin.specs.{Spells.enrolment_from, declared.fault.RegisterFault.RegisterFault}
use Rattle.ntp_service.specs.{declared.command.Command.Command, declared.line_fault.LineFault.LineFault}
use Rattle.ntp_reply.specs.Reference.{ReferenceState}
use Rattle.ntp_admin.specs.Form.{Top, Entry, top_of, entry_of}
use Rattle.ntp_admin.specs.declared.fault.RegisterFault.TheVariants as fault

-- the top level of the document that a text is (TOML 1.1)
abbrev pub top_in : List ℕ → Result Top RegisterFault
top_in text = do
  document ← ok_or (parse_document text) fault.Toml
  ok_or (top_of document) fault.Shape

-- a key number or a budget: from 1 to 65,535
abbrev pub non_zero_whole : ℤ → Option NonZeroU16
non_zero_whole (pos n) = if nat_le n 65535 then non_zero n else None
non_zero_whole (negsuc n) = None

-- the enrolment of a customer, its texts as the words of a line
abbrev pub enrolment_command : Entry → Result Command LineFault
enrolment_command entry = enrolment_from (address_in entry.address) (non_zero_whole entry.number) (algorithm_in entry.algorithm)
    (key_in entry.key) (non_zero_whole entry.budget)

-- the customer at a place, counted from 0: its form comes before its values
abbrev pub customer_in : ℕ → Data → Result Command RegisterFault
customer_in place customer = do
  entry ← ok_or (entry_of customer) fault.Shape
  map_err (enrolment_command entry) (fault.Entry place)

-- the customers from a place on, in file order
abbrev pub customers_in : ℕ → Items → Result (List Command) RegisterFault
customers_in place no_items = Ok []
customers_in place (item customer others) = do
  first ← customer_in place customer
  rest ← customers_in (suc place) others
  Ok (first ∷ rest)

-- the commands of a register file: an enrolment for each customer
abbrev pub register_in : List ℕ → Result (List Command) RegisterFault
register_in text = do
  top ← top_in text
  customers_in 0 top.customers

-- the reference state of a register file
abbrev pub state_in : List ℕ → Result ReferenceState RegisterFault
state_in text = do
  top ← top_in text
  ok_or (reference_in top.reference) fault.Reference
