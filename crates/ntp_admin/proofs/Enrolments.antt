-- Commands that are done one after another.
use Rattle.std.proofs.Common.{◌≡◌, ℕ, ◌<◌, List, [], ◌∷◌, ◌++◌, length, map, take, get_or, Some, refl, sym, ap, ◌∙◌, rules}
use Rattle.std.specs.declared.alloc.Global.{Global}
use Rattle.std.proofs.{lemmas.List.map-append, lemmas.Option.slice_get-get_or}
use Rattle.ntp_service.specs.{Registry.Registry, declared.refusal.Refusal.Refusal, declared.command.Command.Command}
use Rattle.ntp_service.specs.{declared.event.Event.Event, declared.outcome.Outcome.Outcome}
use Rattle.ntp_service.specs.declared.event.Event.TheVariants as event
use Rattle.ntp_service.specs.declared.outcome.Outcome.TheVariants as outcome
use Rattle.ntp_service.specs.Headline.{StandsFor, TellsOne, Tells, not_struck}
use Rattle.ntp_service.proofs.PublicLaws.{Tells-nil, Tells-push}
use Rattle.ntp_admin.specs.Loading.{Enrols, IsRefused}

-- the events that commands are, and for each that it was done
abbrev orders : {A : Type 0} → List Command → List (Event A)
orders commands = map event.Command commands

abbrev all_done : {A : Type 0} → List Command → List (Event A × Outcome)
all_done commands = map (λ command. (event.Command command, outcome.Done)) commands

-- a service was given commands and nothing before them, and each was done
pub record Enrolled (commands : List Command) (service : Registry) : Type 0 where
  pub tells : Tells {A = Global} [] (all_done commands) service

pub Enrolled-none : (service : Registry) → StandsFor {A = Global} service [] → Enrolled [] service
Enrolled-none service stands = record { tells = Tells-nil [] service stands }

pub Enrolled-tells : (commands : List Command) (service : Registry) → Enrolled commands service → Enrols commands service
Enrolled-tells commands service e = e.tells

-- what was done strikes nothing out
kept-done : (commands : List Command) → not_struck {A = Global} (all_done commands) ≡ orders commands
kept-done [] = refl
kept-done (c ∷ commands) = ap (λ es. event.Command c ∷ es) (kept-done commands)

-- one command more
pub Enrolled-more : (commands : List Command) (c : Command) (old new : Registry) → Enrolled commands old
    → ((history : List (Event Global)) → StandsFor old history → TellsOne history (event.Command c) outcome.Done new)
    → Enrolled (commands ++ c ∷ []) new
Enrolled-more commands c old new e tells = search (rules, map-append, Tells-push)

-- the command behind those that were done is refused
pub Enrolled-refused : (commands : List Command) (place : ℕ) (c : Command) (refusal : Refusal) (old new : Registry)
    → Enrolled (take place commands) old → place < length commands → c ≡ get_or commands place c
    → ((history : List (Event Global)) → StandsFor old history → TellsOne history (event.Command c) (outcome.Refused refusal) new)
    → IsRefused commands place refusal
Enrolled-refused commands place c refusal old new e inside is tells = record {
  command = c;
  at = slice_get-get_or commands place c inside ∙ ap Some (sym is);
  service = old;
  enrols = Enrolled-tells (take place commands) old e;
  left = new;
  refused = rw (← kept-done (take place commands)) (tells _ e.tells.stands);
}
