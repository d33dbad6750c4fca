-- Exit statuses.
use Rattle.std.specs.Prelude.{ℕ}
use Rattle.ntp_service.specs.declared.refusal.Refusal.TheVariants as refusal
use Rattle.ntp_service.specs.declared.line_fault.LineFault.TheVariants as line_fault
use Rattle.ntp_admin.specs.declared.fault.RegisterFault.TheVariants as register_fault
use Rattle.ntp_admin.specs.{declared.status.Status.Status, declared.loading.LoadFault.LoadFault}
use Rattle.ntp_admin.specs.declared.status.Status.TheVariants as status
use Rattle.ntp_admin.specs.declared.loading.LoadFault.TheVariants as load_fault

-- the exit status of a program that ends so
abbrev pub status_code : Status → ℕ
status_code status.Done = 0
status_code status.TextFaulty = 1
status_code status.UsageRefused = 2
status_code status.IoFailed = 3
status_code status.MemoryOut = 4

-- the status for what stopped a server that failed to start: 3 where its register file could not be read, 4 for want of memory, else 1
abbrev pub load_status : LoadFault → ℕ
load_status load_fault.Read = 3
load_status (load_fault.Register register_fault.NoMemory) = 4
load_status (load_fault.Register (register_fault.Entry place line_fault.NoMemory)) = 4
load_status (load_fault.Refused place refusal.NoMemory) = 4
load_status other = 1
