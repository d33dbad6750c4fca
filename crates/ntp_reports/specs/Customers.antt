-- What is reported of each customer.
use Rattle.std.specs.Prelude.{◌≡◌, ℕ, ◌==◌, if◌then◌else◌, Option, None, Some, is_some, option_map, List, ◌++◌, find, filter, not, slice_get}
use Rattle.std.specs.{Option.option_map_or, Option.option_to_list, Int.NonZero.non_zero_u16_get}
use Rattle.ntp_service.specs.{declared.command.Command.Command, declared.observation.Observation.TheVariants.Turn}
use Rattle.ntp_service.specs.declared.observation.TurnOutcome.{TurnOutcome}
use Rattle.ntp_service.specs.declared.command.Command.TheVariants.{Enrol, Revoke, Rollover, Retire}
use Rattle.ntp_service.specs.declared.observation.TurnOutcome.TheVariants.{NothingReceived, Answered}
use Rattle.ntp_reply.specs.declared.answers.{Answer.Answer, SignedReply.SignedReply}
use Rattle.ntp_reply.specs.declared.answers.Answer.TheVariants as answer
use Rattle.ntp_reports.specs.declared.customer_report.{KeyUse.KeyUse, Signing.Signing, CustomerReport.CustomerReport}
use Rattle.ntp_reports.specs.{Counted.CountsOneMore, Counted.nothing_counted}

-- a key that has signed nothing
abbrev pub new_key : ℕ → KeyUse
new_key number = record { number = number; last_signed = None }

-- the keys of a report, the older one first
abbrev pub keys_of_report : CustomerReport → List KeyUse
keys_of_report report = option_to_list report.first ++ option_to_list report.second

-- its key with a number, if it has one
abbrev pub key_numbered : CustomerReport → ℕ → Option KeyUse
key_numbered report number = find (λ key. key.number == number) (keys_of_report report)

-- what is reported of a customer that a line enrols with a key of this number: what it was answered before stays
abbrev pub enrolled_again : Option CustomerReport → ℕ → ℕ → CustomerReport
enrolled_again before number line = record {
  counts = option_map_or (λ report. report.counts) before nothing_counted;
  line = line;
  first = Some (new_key number);
  second = None;
}

-- with one key more, and with one less
abbrev pub rolled_over : CustomerReport → ℕ → CustomerReport
rolled_over report number =
    if is_some report.first then record report { second = Some (new_key number) } else record report { first = Some (new_key number) }

abbrev pub retired : CustomerReport → ℕ → CustomerReport
retired report number =
    let left = filter (λ key. not (key.number == number)) (keys_of_report report) in
    record report { first = slice_get left 0; second = slice_get left 1 }

-- what is reported of a customer, if anything is, after its command was carried out by a line
abbrev pub report_after : Option CustomerReport → Command → ℕ → Option CustomerReport
report_after before (Enrol address number key budget) line = Some (enrolled_again before (non_zero_u16_get number) line)
report_after before (Revoke address) line = option_map {T = CustomerReport} (λ report. record report { first = None; second = None }) before
report_after before (Rollover address number key) line = option_map (λ report. rolled_over report (non_zero_u16_get number)) before
report_after before (Retire address number) line = option_map (λ report. retired report (non_zero_u16_get number)) before
report_after before other line = before

-- the reply to a signed query: the time, or RATE
abbrev pub signed_in : Answer → Option SignedReply
signed_in (answer.Time reply saved) = Some reply
signed_in (answer.Rate reply) = Some reply
signed_in other = None

-- under which key number the query of a turn was signed that got one, and when it came
abbrev pub signing_in : TurnOutcome → Option Signing
signing_in NothingReceived = None
signing_in (Answered arrival a sending) = option_map (λ reply. record { number = reply.number; receipt = arrival.receipt }) (signed_in a)

-- a key after a turn in which a query was signed, or none was: the key that signed has its receipt
abbrev pub used_by : Option Signing → KeyUse → KeyUse
used_by None key = key
used_by (Some signing) key = if key.number == signing.number then record key { last_signed = Some signing.receipt } else key

-- a report after a turn of its customer's: the turn is counted, and the key that signed has its receipt
pub record Takes (outcome : TurnOutcome) (old new : CustomerReport) : Type 0 where
  pub counts : CountsOneMore old.counts new.counts (Turn outcome)
  pub line : new.line ≡ old.line
  pub first : new.first ≡ option_map (used_by (signing_in outcome)) old.first
  pub second : new.second ≡ option_map (used_by (signing_in outcome)) old.second
