-- The life of one address: what its own events leave of it.
use Rattle.std.specs.Prelude.{List, [], Option, None}
use Rattle.std.specs.Option.{option_map_or}
use Rattle.ntp_customer.specs.{declared.slot.Slot.Slot, Exchanges.recent, Past.Past}
use Rattle.ntp_customer.specs.Customer.{Enrolment, enrolment_at, exchanges_of}

-- the last exchanges of a past, or all where there are fewer than are saved (profile)
abbrev pub recent_of : Past → List Slot
recent_of past = recent (exchanges_of past)

-- the life of one address: its past, and none where it was never enrolled (profile)
abbrev pub Life : Type 0
Life = Option Past

-- the enrolment that an address has now, if it has one (profile)
abbrev pub enrolment_in : Life → Option Enrolment
enrolment_in life = option_map_or enrolment_at life None

-- the last exchanges of an address (profile)
abbrev pub recent_in : Life → List Slot
recent_in life = option_map_or recent_of life []
