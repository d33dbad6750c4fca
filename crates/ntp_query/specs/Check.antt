-- Whether a server is well, by limits.
use Rattle.std.specs.Prelude.{ℕ, Bool, false, ◌==◌, nat_lt, if◌then◌else◌, unsigned_abs, Option, Some, None, ok_or, Result, Ok, Err}
use Rattle.std.specs.Option.{option_map_or}
use Rattle.ntp_packet.specs.FirstCase.{◌>>=◌, ◌>>◌, provided, decided}
use Rattle.ntp_query.specs.{declared.answer.Answer.Answer, declared.check.Limits.Limits}
use Rattle.ntp_query.specs.{declared.check.Measure.Measure, declared.check.Verdict.Verdict}
use Rattle.ntp_query.specs.declared.check.Measure.TheVariants.{Offset, Stratum, RootDistance}
use Rattle.ntp_query.specs.declared.check.Cause.TheVariants.{NoSample, Above, Missing}
use Rattle.ntp_query.specs.declared.check.Verdict.TheVariants.{Well, Warning, Critical}
use Rattle.ntp_query.specs.Answer.{offset_of, root_distance_of}

-- whether a value is above its limit, if it has one
abbrev pub is_above : Option ℕ → ℕ → Bool
is_above limit value = option_map_or (λ l. nat_lt l value) limit false

-- the first of offset, stratum and root distance that is above its limit; an offset counts by its size
abbrev pub passed_by : Limits → Answer → Option Measure
passed_by limits a =
    if is_above limits.offset (unsigned_abs (offset_of a)) then Some Offset
    else (if is_above limits.stratum a.clock.stratum then Some Stratum
    else (if is_above limits.root_distance (unsigned_abs (root_distance_of a)) then Some RootDistance else None))

-- goes on where no measure is above its limit; otherwise what is said of that is decided
abbrev pub within : Option Measure → (Measure → Verdict) → Result (Unit {0}) Verdict
within None said = Ok tt
within (Some measure) said = Err (said measure)

-- whether a server is well, by critical limits and by those of a warning, by the sample of least delay, and by how many queries gave no
-- sample; the first case that applies decides
abbrev pub verdict_of : Limits → Limits → Option Answer → ℕ → Verdict
verdict_of most warn least without = decided do
  a ← ok_or least (Critical NoSample)
  within (passed_by most a) (λ measure. Critical (Above measure))
  within (passed_by warn a) (λ measure. Warning (Above measure))
  provided (without == 0) (Warning Missing)
  Ok Well

-- the exit status of a check (Monitoring Plugins)
abbrev pub check_status : Verdict → ℕ
check_status Well = 0
check_status (Warning cause) = 1
check_status (Critical cause) = 2
