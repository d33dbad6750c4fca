-- What an observer reports of customers.
use Rattle.std.specs.Prelude.{◌≡◌, ℕ, ◌⊎◌, Bool, false, true, ◌==◌, if◌then◌else◌, Option, None, Some, is_some, option_and_then, IfSome, IsSomeAnd, List, [], ◌∷◌, ◌++◌, filter, filter_map, reverse, slice_get}
use Rattle.std.specs.Map.{lookup}
use Rattle.ntp_packet.specs.declared.moment.Moment.{Moment}
use Rattle.ntp_service.specs.{declared.address.Address.Address, Address.address_eq, declared.command.Command.Command}
use Rattle.ntp_service.specs.{declared.observation.LineOutcome.LineOutcome, declared.observation.LineOutcome.TheVariants.Done}
use Rattle.ntp_service.specs.{declared.observation.Observation.Observation, declared.observation.Observation.TheVariants.Turn}
use Rattle.ntp_service.specs.{declared.observation.TurnOutcome.TurnOutcome, declared.observation.TurnOutcome.TheVariants.Answered}
use Rattle.ntp_service.specs.Commands.{address_named}
use Rattle.ntp_reports.specs.{declared.customer_report.Signing.Signing, declared.customer_report.CustomerReport.CustomerReport}
use Rattle.ntp_reports.specs.{declared.customer_counts.CustomerCounts.CustomerCounts, Counted.AreCounts}
use Rattle.ntp_reports.specs.Customers.{key_numbered, report_after, signing_in, Takes}

-- whether an observation is of a datagram from an address
abbrev pub comes_from : Address → Observation → Bool
comes_from address (Turn (Answered arrival a sending)) = address_eq arrival.address address
comes_from address other = false

-- of what was told, the turns with datagrams from an address, in their order
abbrev pub told_of : Address → List Observation → List Observation
told_of address seen = filter (comes_from address) seen

-- when the query of an observation came, where it was signed under a key number and got the time or RATE
abbrev pub signed_at : ℕ → Observation → Option Moment
signed_at number (Turn outcome) =
    option_and_then (λ (signing : Signing). if number == signing.number then Some signing.receipt else None) (signing_in outcome)
signed_at number other = None

-- a part that may be absent: none comes and none goes, and one that is there goes this way
abbrev pub IfThere : {T : Type 0} → (T → T → Type 0) → Option T → Option T → Type 0
IfThere goes None new = new ≡ None
IfThere goes (Some old) new = IsSomeAnd new (goes old)

module _ {A : Type 0} where
  -- what is reported of an address, if anything is
  abbrev pub report_at : CustomerCounts A → Address → Option CustomerReport
  report_at counts address = lookup (address_eq address) counts.reports.entries

  -- the counts of an address are those of its turns among these observations
  pub record CountsOf (counts : CustomerCounts A) (address : Address) (seen : List Observation) : Type 0 where
    pub are : IfSome (report_at counts address) (λ report. AreCounts report.counts (told_of address seen))

  -- a key of an address signed last as its turns among these observations tell, from the newest one back
  pub record SignsAs (counts : CustomerCounts A) (address : Address) (number : ℕ) (seen : List Observation) : Type 0 where
    pub is : IfSome (option_and_then (λ report. key_numbered report number) (report_at counts address))
        (λ key. key.last_signed ≡ slice_get (filter_map (signed_at number) (reverse (told_of address seen))) 0)

  -- all reports are as they were
  abbrev pub AreSame : CustomerCounts A → CustomerCounts A → Type 0
  AreSame old new = (address : Address) → report_at new address ≡ report_at old address

  -- an address has this report, and all others are as they were
  pub record HasReport (old new : CustomerCounts A) (address : Address) (report : Option CustomerReport) : Type 0 where
    pub own : report_at new address ≡ report
    pub others : (other : Address) → address_eq address other ≡ false → report_at new other ≡ report_at old other

  -- a command was carried out by a line: of its address is reported what is after it, and all others are as they were
  abbrev pub CarriedOut : CustomerCounts A → CustomerCounts A → Command → ℕ → Type 0
  CarriedOut old new command line =
      HasReport old new (address_named command) (report_after (report_at old (address_named command)) command line)

  -- a line with this number and command was reported: where a command was done, it was carried out, or memory was refused for the
  -- report of the address that it names, which had none, and all reports are as they were
  abbrev pub ReportsLine : ℕ → Option Command → LineOutcome → CustomerCounts A → CustomerCounts A → Type 0
  ReportsLine number (Some command) Done old new = CarriedOut old new command number
      ⊎ (report_at old (address_named command) ≡ None) × AreSame old new × (new.has_missed ≡ true)
  ReportsLine number other outcome old new = AreSame old new

  -- a turn of an address was taken; no public clause cites this
  pub record TakesTurn (outcome : TurnOutcome) (address : Address) (old new : CustomerCounts A) : Type 0 where
    pub own : IfThere (Takes outcome) (report_at old address) (report_at new address)
    pub others : (other : Address) → address_eq address other ≡ false → report_at new other ≡ report_at old other

  -- a turn more was reported, in the counts and in when keys signed: whatever these were of, they are of that and this turn
  pub record ReportsTurn (outcome : TurnOutcome) (old new : CustomerCounts A) : Type 0 where
    pub counts : (address : Address) (seen : List Observation) → CountsOf old address seen → CountsOf new address (seen ++ Turn outcome ∷ [])
    pub signings : (address : Address) (number : ℕ) (seen : List Observation) → SignsAs old address number seen
        → SignsAs new address number (seen ++ Turn outcome ∷ [])
    pub customers : (address : Address) → is_some (report_at new address) ≡ is_some (report_at old address)
    pub missed : new.has_missed ≡ old.has_missed
