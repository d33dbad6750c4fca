-- The words for commands, for why they are refused, and for what is wrong with a line.
use Rattle.std.specs.Prelude.{ℕ, List, codes}
use Rattle.ntp_service.specs.{declared.command.Command.Command, declared.refusal.Refusal.Refusal}
use Rattle.ntp_service.specs.declared.line_fault.LineFault.{LineFault}
use Rattle.ntp_service.specs.declared.command.Command.TheVariants.{Enrol, Revoke, Budget, Rollover, Retire}
use Rattle.ntp_service.specs.declared.refusal.Refusal.TheVariants as refusal
use Rattle.ntp_service.specs.declared.line_fault.LineFault.TheVariants as line_fault

-- the first word of a command's line
abbrev pub command_word : Command → List ℕ
command_word (Enrol address number key budget) = codes "enrol"
command_word (Revoke address) = codes "revoke"
command_word (Budget address budget) = codes "budget"
command_word (Rollover address number key) = codes "rollover"
command_word (Retire address number) = codes "retire"

-- the word for why a command was refused
abbrev pub refusal_word : Refusal → List ℕ
refusal_word refusal.AlreadyEnrolled = codes "already-enrolled"
refusal_word refusal.KeyTaken = codes "key-taken"
refusal_word refusal.NoMemory = codes "no-memory"
refusal_word refusal.NotEnrolled = codes "not-enrolled"
refusal_word refusal.SameNumber = codes "same-number"
refusal_word refusal.RoomFull = codes "room-full"
refusal_word refusal.OnlyKey = codes "only-key"
refusal_word refusal.NotHeld = codes "not-held"

-- the word for what is wrong with a line
abbrev pub line_fault_word : LineFault → List ℕ
line_fault_word line_fault.Word = codes "word"
line_fault_word line_fault.Count = codes "count"
line_fault_word line_fault.Address = codes "address"
line_fault_word line_fault.Number = codes "number"
line_fault_word line_fault.Algorithm = codes "algorithm"
line_fault_word line_fault.KeyText = codes "key"
line_fault_word line_fault.Budget = codes "budget"
line_fault_word line_fault.NoMemory = codes "memory"
line_fault_word line_fault.Moment = codes "moment"
line_fault_word line_fault.Stamp = codes "stamp"
line_fault_word line_fault.Reference = codes "reference"
line_fault_word line_fault.Hex = codes "hex"
line_fault_word line_fault.LineLong = codes "line-long"
line_fault_word line_fault.NotUtf8 = codes "not-utf8"
