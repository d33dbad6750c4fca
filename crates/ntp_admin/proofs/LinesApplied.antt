-- Lines carried out one after another.
use Rattle.std.proofs.Common.{◌≡◌, ℕ, ◌+◌, ◌<◌, ◌≤◌, ◌^◌, false, List, [], ◌∷◌, ◌++◌, length, drop, None, Some, Ok, Err, arith, refl, sym, ap, ◌∙◌, subst, append_assoc, append-nil}
use Rattle.std.specs.Prelude.{Result, IfOk, IfErr, IsUtf8}
use Rattle.std.proofs.{lemmas.Bool.false_from_ne_true, lemmas.Bool.Decides.nat_tests}
use Rattle.std.proofs.{lemmas.Str.is_utf8-from_IsUtf8, lemmas.Str.IsUtf8-from_is_utf8, lemmas.List.length-append}
use Rattle.std.proofs.lemmas.List.{length-drop, drop_all}
use Rattle.ntp_service.specs.{declared.refusal.Refusal.Refusal, Registry.Registry, declared.command.Command.Command}
use Rattle.ntp_service.specs.declared.{event.Event.Event, line_fault.LineFault.LineFault}
use Rattle.ntp_service.specs.declared.{line_fault.LineFault.TheVariants.NotUtf8, observation.LineOutcome.LineOutcome}
use Rattle.ntp_service.specs.{declared.observation.Observation.Observation, InTurn.InTurn}
use Rattle.ntp_service.specs.declared.observation.{Observation.TheVariants.Line, LineOutcome.TheVariants.Faulty}
use Rattle.ntp_service.specs.Headline.{StandsFor, Tells, TellsOne, command_outcome}
use Rattle.ntp_service.specs.declared.event.Event.TheVariants as event
use Rattle.ntp_service.proofs.PublicLaws.{Tells-nil, Tells-one}
use Rattle.ntp_admin.specs.{Words.words, Spells.command_in, Spells.is_passed_over, FileText.IsText, FileText.most_file_octets}
use Rattle.ntp_admin.specs.CommandsFile.{complete_lines, line_reading, count_on, carried_out, CarriesOut, CarriesOutDue}
use Rattle.ntp_admin.specs.Applying.{AppliesLine}
use Rattle.ntp_admin.proofs.LinesCut.{complete_lines-few}
use Rattle.ntp_admin.proofs.LinesTaken.{count_on-none, CarriesOut-none, CarriesOut-more}

-- ---- what a line is read as
-- a text is read as a command, or as what is wrong with it
pub reads-text : (most : ℕ) (line text : List ℕ) (read : Result Command LineFault) → is_passed_over line ≡ false → length line ≤ most
    → text ≡ line → IsUtf8 line → IfOk read (λ command. command_in (words text) ≡ Ok command)
    → IfErr read (λ fault. command_in (words text) ≡ Err fault) → Some read ≡ line_reading most line
reads-text most line text read taken short same utf8 ok err = grind (arith, nat_tests, is_utf8-from_IsUtf8)

-- what is no text is not
pub reads-no-text : (most : ℕ) (line : List ℕ) → is_passed_over line ≡ false → length line ≤ most → (IsUtf8 line → ⊥)
    → Some (Err NotUtf8) ≡ line_reading most line
reads-no-text most line taken short none = grind (arith, nat_tests, false_from_ne_true, IsUtf8-from_is_utf8)

-- ---- one line
module _ {O : Type 0} (Heard : O → O → Observation → Type 0) (A : Type 0) (most number : ℕ) (line : List ℕ) (old new : Registry)
    (earlier later : O) where
  -- a command was carried out or refused
  pub AppliesLine-command : (c : Command) (r : Result (Unit {0}) Refusal) (o : LineOutcome) → line_reading most line ≡ Some (Ok c)
      → o ≡ carried_out r → ((history : List (Event A)) → StandsFor old history → TellsOne history (event.Command c) (command_outcome r) new)
      → Heard earlier later (Line number (Some c) o) → AppliesLine A most number line old new (InTurn Heard earlier later)
  AppliesLine-command c r o read said tells heard =
      rw read (
        r,
        (later, subst (λ x. Heard earlier later (Line number (Some c) x)) said heard, refl),
        λ history stands. Tells-one history _ _ new (tells history stands),
      )

  -- a line that is no command
  pub AppliesLine-fault : (fault : LineFault) → line_reading most line ≡ Some (Err fault) → new ≡ old
      → Heard earlier later (Line number None (Faulty fault)) → AppliesLine A most number line old new (InTurn Heard earlier later)
  AppliesLine-fault fault read same heard =
      rw read (Ok tt, (later, heard, refl), λ history stands. subst (λ s. Tells history [] s) (sym same) (Tells-nil history old stands))

  -- one that is passed over
  pub AppliesLine-none : line_reading most line ≡ None → new ≡ old → later ≡ earlier
      → AppliesLine A most number line old new (InTurn Heard earlier later)
  AppliesLine-none read same unheard =
      rw read (Ok tt, unheard, λ history stands. subst (λ s. Tells history [] s) (sym same) (Tells-nil history old stands))

-- ---- the lines of octets
-- what was carried out of octets, where `rest` is still to be read
pub record Applied (A : Type 0) (most before : ℕ) (old : Registry) (octets rest : List ℕ) (number : ℕ) (new : Registry)
    (Heard : List Observation → Type 0) : Type 0 where
  pub done : List (List ℕ)
  pub whole : complete_lines octets ≡ done ++ complete_lines rest
  pub counted : number ≡ count_on before (length done)
  pub carried : CarriesOut A most before done old new Heard

pub Applied-none : (A : Type 0) (most before : ℕ) (s : Registry) (octets : List ℕ) (Heard : List Observation → Type 0) → before < 2 ^ 64
    → Heard [] → Applied A most before s octets octets before s Heard
Applied-none A most before s octets Heard fits heard = record {
  done = [];
  whole = refl;
  counted = count_on-none before fits;
  carried = CarriesOut-none A most before s Heard heard;
}

-- and one line more
pub Applied-more : {O : Type 0} (Heard : O → O → Observation → Type 0) (A : Type 0) (most before : ℕ) (old mid new : Registry)
    (earlier halfway later : O) (octets rest line others : List ℕ) (number next : ℕ) → before < 2 ^ 64
    → Applied A most before old octets rest number mid (InTurn Heard earlier halfway) → complete_lines rest ≡ line ∷ complete_lines others
    → next ≡ count_on number 1 → AppliesLine A most next line mid new (InTurn Heard halfway later)
    → Applied A most before old octets others next new (InTurn Heard earlier later)
Applied-more Heard A most before old mid new earlier halfway later octets rest line others number next fits a cut is one =
    let many : length (a.done ++ line ∷ []) ≡ length a.done + 1 = length-append a.done (line ∷ []) in
    let place : next ≡ count_on before (length a.done + 1) = omega (arith, is, a.counted) in
    record {
      done = a.done ++ line ∷ [];
      whole = a.whole ∙ ap (λ l. a.done ++ l) cut ∙ sym (append_assoc a.done (line ∷ []) (complete_lines others));
      counted = place ∙ ap (count_on before) (sym many);
      carried = CarriesOut-more Heard A most before next a.done line old mid new earlier halfway later fits place a.carried one;
    }

-- at the end
module _ (A : Type 0) (most before : ℕ) (old new : Registry) (Heard : List Observation → Type 0) (octets rest : List ℕ) (number : ℕ)
    (a : Applied A most before old octets rest number new Heard) (end : complete_lines rest ≡ []) where
  all-done : a.done ≡ complete_lines octets
  all-done = sym (a.whole ∙ ap (λ l. a.done ++ l) end ∙ append-nil a.done)

  pub Applied-count : number ≡ count_on before (length (complete_lines octets))
  Applied-count = a.counted ∙ ap (λ ls. count_on before (length ls)) all-done

  pub Applied-lines : CarriesOut A most before (complete_lines octets) old new Heard
  Applied-lines = subst (λ ls. CarriesOut A most before ls old new Heard) all-done a.carried

-- ---- octets of a file
-- those of a text, whose lines behind the applied ones are those of `rest`, whoever heard of them
pub Due-text : (A : Type 0) (applied after : ℕ) (octets rest : List ℕ) (old new : Registry) (Heard : List Observation → Type 0) → IsText octets
    → (applied ≤ length (complete_lines octets)) × (complete_lines rest ≡ drop applied (complete_lines octets))
    → after ≡ count_on applied (length (complete_lines rest))
    → CarriesOut A most_file_octets applied (complete_lines rest) old new Heard → CarriesOutDue A applied octets after old new
Due-text A applied after octets rest old new Heard text due count c =
    let all = complete_lines octets in
    record {
      lines = complete_lines rest;
      text = λ yes. (due.1, omega (arith, count, due.0, ap length due.1, length-drop applied all, complete_lines-few octets, text.within));
      other = λ no. absurd (no text);
      carried = record { taken = c.taken; these = c.these; observed = tt; tells = c.tells };
    }

-- those of a text that has fewer lines
pub Due-fewer : (A : Type 0) (applied : ℕ) (octets : List ℕ) (s : Registry) → IsText octets → length (complete_lines octets) < applied
    → CarriesOutDue A applied octets applied s s
Due-fewer A applied octets s text fewer = record {
  lines = [];
  text = λ yes. (sym (drop_all applied (complete_lines octets) (omega (arith, fewer))), omega (arith, fewer));
  other = λ no. absurd (no text);
  carried = CarriesOut-none A _ applied s _ tt;
}

-- those that are no text
pub Due-none : (A : Type 0) (applied : ℕ) (octets : List ℕ) (s : Registry) → (IsText octets → ⊥) → CarriesOutDue A applied octets applied s s
Due-none A applied octets s not = record {
  lines = [];
  text = λ yes. absurd (not yes);
  other = λ no. (refl, refl);
  carried = CarriesOut-none A _ applied s _ tt;
}
