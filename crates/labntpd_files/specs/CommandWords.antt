-- At which word a line of commands has a fault.
use Rattle.std.specs.Prelude.{ℕ, List, codes, if◌then◌else◌, Option, None, Some}
use Rattle.std.specs.Str.{bytes_eq}
use Rattle.ntp_service.specs.declared.line_fault.LineFault.{LineFault}
use Rattle.ntp_service.specs.declared.line_fault.LineFault.TheVariants as fault

-- the place of the word, counted from 0, behind a first word, by the forms of the commands: a budget is the last word of two
abbrev pub faulty_place : List ℕ → LineFault → Option ℕ
faulty_place first fault.Word = Some 0
faulty_place first fault.Address = Some 1
faulty_place first fault.Number = Some 2
faulty_place first fault.Algorithm = Some 3
faulty_place first fault.KeyText = Some 4
faulty_place first fault.Budget = if bytes_eq first (codes "budget") then Some 2 else Some 5
faulty_place first other = None
