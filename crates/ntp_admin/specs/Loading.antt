-- What a register file that is loaded gives, and why one gives nothing.
use Rattle.std.specs.Prelude.{◌≡◌, ◌⊎◌, ℕ, List, [], map, take, slice_get, Some, Ok, Err}
use Rattle.std.specs.declared.alloc.Global.{Global}
use Rattle.ntp_service.specs.{Registry.Registry, declared.refusal.Refusal.Refusal, declared.command.Command.Command}
use Rattle.ntp_service.specs.Headline.{Tells, TellsOne}
use Rattle.ntp_reply.specs.Reference.{ReferenceState}
use Rattle.ntp_admin.specs.{RegisterFile.state_in, RegisterFile.register_in, declared.fault.RegisterFault.TheVariants.NoMemory}
use Rattle.ntp_admin.specs.{declared.loading.LoadFault.LoadFault, FileText.IsText}
use Rattle.ntp_service.specs.declared.event.Event.TheVariants as event
use Rattle.ntp_service.specs.declared.outcome.Outcome.TheVariants as outcome
use Rattle.ntp_admin.specs.declared.loading.LoadFault.TheVariants as load_fault

-- a service was given commands and nothing before them, and each was done
abbrev pub Enrols : List Command → Registry → Type 0
Enrols commands service = Tells {A = Global} [] (map (λ command. (event.Command command, outcome.Done)) commands) service

-- what a register file gives: its reference state, and a service with its customers enrolled, in file order
pub record Loads (octets : List ℕ) (reference : ReferenceState) (service : Registry) : Type 0 where
  pub text : IsText octets
  pub state : state_in octets ≡ Ok reference
  pub commands : List Command
  pub read : register_in octets ≡ Ok commands
  pub enrols : Enrols commands service

-- the command at a place, counted from 0, is refused, and those before it are done
pub record IsRefused (commands : List Command) (place : ℕ) (refusal : Refusal) : Type 0 where
  pub command : Command
  pub at : slice_get commands place ≡ Some command
  pub service : Registry
  pub enrols : Enrols (take place commands) service
  pub left : Registry
  pub refused : TellsOne {A = Global} (map event.Command (take place commands)) (event.Command command) (outcome.Refused refusal) left

-- the first reason, in this order, why a register file gives no service: the fault of the reference comes before that of the customers,
-- and want of memory can come whatever the file says
abbrev pub LoadFails : List ℕ → LoadFault → Type 0
LoadFails octets load_fault.Read = ¬ IsText octets
LoadFails octets (load_fault.Register fault) = IsText octets × ((fault ≡ NoMemory) ⊎ (state_in octets ≡ Err fault)
    ⊎ ((reference : ReferenceState) × (state_in octets ≡ Ok reference) × (register_in octets ≡ Err fault)))
LoadFails octets (load_fault.Refused place refusal) = IsText octets
    × ((reference : ReferenceState) × (state_in octets ≡ Ok reference))
    × ((commands : List Command) × (register_in octets ≡ Ok commands) × IsRefused commands place refusal)
