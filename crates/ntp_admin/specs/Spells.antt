-- What a line of a script says, or the first fault in it: each step gives a part of it, or the line's fault.
use Rattle.std.specs.Prelude.{◌==◌, ℕ, Bool, true, if◌then◌else◌, List, [], ◌∷◌, codes, Option, Result, Ok, Err}
use Rattle.std.specs.{Option.ok_or, Str.bytes_eq, declared.num.NonZeroU16.NonZeroU16}
use Rattle.ntp_packet.specs.FirstCase.{◌>>=◌}
use Rattle.ntp_admin.specs.Words.{address_in, number_in, algorithm_in, key_in, stamp_in, moment_in, reference_in, octets_in}
use Rattle.ntp_mac.specs.declared.key.Algorithm.{Algorithm}
use Rattle.ntp_service.specs.{declared.address.Address.Address, declared.command.Command.Command, declared.event.Event.Event}
use Rattle.ntp_service.specs.declared.line_fault.LineFault.{LineFault}
use Rattle.ntp_service.specs.declared.command.Command.TheVariants as command
use Rattle.ntp_service.specs.declared.event.Event.TheVariants as event
use Rattle.ntp_service.specs.declared.line_fault.LineFault.TheVariants as fault

-- whether a line is no event: it is empty, or begins with `#`
abbrev pub is_passed_over : List ℕ → Bool
is_passed_over [] = true
is_passed_over (x ∷ xs) = x == 35

-- an enrolment, by what is read of it, or the first fault in this order
abbrev pub enrolment_from : Option Address → Option NonZeroU16 → Option Algorithm → Option (List ℕ) → Option NonZeroU16 → Result Command LineFault
enrolment_from address number algorithm key budget = do
  a ← ok_or address fault.Address
  n ← ok_or number fault.Number
  h ← ok_or algorithm fault.Algorithm
  k ← ok_or key fault.KeyText
  b ← ok_or budget fault.Budget
  Ok (command.Enrol a n (record { algorithm = h; octets = k }) b)

-- the words behind `enrol`
abbrev pub enrol_in : List (List ℕ) → Result Command LineFault
enrol_in (address ∷ number ∷ algorithm ∷ key ∷ budget ∷ []) =
    enrolment_from (address_in address) (number_in number) (algorithm_in algorithm) (key_in key) (number_in budget)
enrol_in other = Err fault.Count

-- the word behind `revoke`
abbrev pub revoke_in : List (List ℕ) → Result Command LineFault
revoke_in (address ∷ []) = do
  a ← ok_or (address_in address) fault.Address
  Ok (command.Revoke a)
revoke_in other = Err fault.Count

-- the words behind `budget`
abbrev pub new_budget_in : List (List ℕ) → Result Command LineFault
new_budget_in (address ∷ budget ∷ []) = do
  a ← ok_or (address_in address) fault.Address
  b ← ok_or (number_in budget) fault.Budget
  Ok (command.Budget a b)
new_budget_in other = Err fault.Count

-- the words behind `rollover`
abbrev pub rollover_in : List (List ℕ) → Result Command LineFault
rollover_in (address ∷ number ∷ algorithm ∷ key ∷ []) = do
  a ← ok_or (address_in address) fault.Address
  n ← ok_or (number_in number) fault.Number
  h ← ok_or (algorithm_in algorithm) fault.Algorithm
  k ← ok_or (key_in key) fault.KeyText
  Ok (command.Rollover a n (record { algorithm = h; octets = k }))
rollover_in other = Err fault.Count

-- the words behind `retire`
abbrev pub retire_in : List (List ℕ) → Result Command LineFault
retire_in (address ∷ number ∷ []) = do
  a ← ok_or (address_in address) fault.Address
  n ← ok_or (number_in number) fault.Number
  Ok (command.Retire a n)
retire_in other = Err fault.Count

-- a command, by its first word
unfoldable pub command_in : List (List ℕ) → Result Command LineFault
command_in [] = Err fault.Word
command_in (first ∷ others) =
    if bytes_eq first (codes "enrol") then enrol_in others
    else if bytes_eq first (codes "revoke") then revoke_in others
    else if bytes_eq first (codes "budget") then new_budget_in others
    else if bytes_eq first (codes "rollover") then rollover_in others
    else if bytes_eq first (codes "retire") then retire_in others
    else Err fault.Word

-- the words behind `datagram`
abbrev pub datagram_in : {A : Type 0} → List (List ℕ) → Result (Event A) LineFault
datagram_in (address ∷ receipt ∷ transmit ∷ reference ∷ octets ∷ []) = do
  a ← ok_or (address_in address) fault.Address
  r ← ok_or (moment_in receipt) fault.Moment
  t ← ok_or (moment_in transmit) fault.Moment
  s ← ok_or (reference_in reference) fault.Reference
  o ← ok_or (octets_in octets) fault.Hex
  Ok (event.Datagram a r t s o)
datagram_in other = Err fault.Count

-- the words behind `departed`
abbrev pub departed_in : {A : Type 0} → List (List ℕ) → Result (Event A) LineFault
departed_in (address ∷ receive ∷ moment ∷ []) = do
  a ← ok_or (address_in address) fault.Address
  s ← ok_or (stamp_in receive) fault.Stamp
  m ← ok_or (moment_in moment) fault.Moment
  Ok (event.Departed a s m)
departed_in other = Err fault.Count

-- an event, by its first word
unfoldable pub event_in : {A : Type 0} → List (List ℕ) → Result (Event A) LineFault
event_in [] = Err fault.Word
event_in (first ∷ others) =
    if bytes_eq first (codes "datagram") then datagram_in others
    else if bytes_eq first (codes "departed") then departed_in others
    else do
      c ← command_in (first ∷ others)
      Ok (event.Command c)
