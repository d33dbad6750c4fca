-- What others forge in a customer's name, and what the customer is told without it.
use Rattle.std.specs.Prelude.{Bool, true, false, None, option_map, List, [], map, filter, zip, scan}
use Rattle.std.specs.Option.{option_map_or}
use Rattle.ntp_service.specs.{declared.address.Address.Address, declared.event.Event.Event, declared.outcome.Outcome.Outcome}
use Rattle.ntp_service.specs.{Events.own, Headline.happened_to}
use Rattle.ntp_customer.specs.Past.{Past}
use Rattle.ntp_reply.specs.Life.{Life}
use Rattle.ntp_reply.specs.Kind.{Kind, Signed, kind_of}
use Rattle.ntp_service.specs.declared.event.Event.TheVariants as event
use Rattle.ntp_service.specs.Model.{after, life_of, FollowsModel}

-- whether a datagram of a kind is a signed query: its MAC is under one of the customer's keys
abbrev pub is_signed_query : Kind → Bool
is_signed_query (Signed key number request) = true
is_signed_query other = false

-- whether an event is genuine in a life: a signed query is, and no other datagram; each departure and each command is
abbrev pub is_genuine : {A : Type 0} → Life → Event A → Bool
is_genuine life (event.Datagram address receipt transmit reference octets) =
    option_map_or (λ past. is_signed_query (kind_of past octets)) life false
is_genuine life other = true

-- of what stands beside events, from a life on, that beside the genuine ones: each event is judged in the life that all events before
-- it left
abbrev pub at_genuine : {A X : Type 0} → Life → List (Event A) → List X → List X
at_genuine life events beside = map (λ p. p.1) (filter (λ p. p.0) (zip (scan after is_genuine life events) beside))

-- the genuine ones of events
abbrev pub genuine : {A : Type 0} → List (Event A) → List (Event A)
genuine events = at_genuine None events events

-- a life with no refusals counted
abbrev pub without_refusals : Life → Life
without_refusals life = option_map (λ (past : Past). record past { refusals = [] }) life

-- what happened to each address at its genuine events follows the model of one customer, by the address's genuine events alone
abbrev pub TellsWithoutForgeries : {A : Type 0} → List (Event A) → List (Event A × Outcome) → Type 0
TellsWithoutForgeries history happened = (address : Address)
    → let past = own address history in
    let now = happened_to address happened in
    FollowsModel (life_of (genuine past)) (at_genuine (life_of past) (map (λ p. p.0) now) now)
