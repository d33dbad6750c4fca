-- One command, by what the register did on it.
use Rattle.std.proofs.Common.{◌≡◌, ◌≢◌, ℕ, Bool, true, false, Option, Some, None, Result, Ok, Err, IsSome, is_some, option_map, List, [], ◌∷◌, ◌++◌, refl, sym, ap, ◌∙◌, subst, true≢false, arith}
use Rattle.std.specs.{Prelude.◌↔◌, Prelude.OnErr, Prelude.if◌then◌else◌, Prelude.option_and_then, Option.option_map_or}
use Rattle.ntp_customer.specs.{Tally.tally, Customer.Enrolment, Customer.CustomerState, Past.short}
use Rattle.ntp_service.specs.declared.{address.Address.Address, refusal.Refusal.Refusal, refusal.Refusal.TheVariants.KeyTaken}
use Rattle.ntp_service.specs.declared.{command.Command.Command, event.Event.Event, outcome.Outcome.TheVariants.Done}
use Rattle.ntp_service.specs.{declared.outcome.Outcome.TheVariants.Refused, Events.own, Model.life_of, Commands.address_named}
use Rattle.ntp_service.specs.Commands.{number_wanted, refusal_of, is_foreign, once_done}
use Rattle.ntp_service.specs.Registry.{Registry, Agrees, AnswersCommand, customer_at, terms_at, holder_of, after_command}
use Rattle.ntp_service.specs.{Registry.own_refusal, Registry.holder_in_way, Headline.StandsFor, Headline.TellsOne}
use Rattle.ntp_service.specs.Headline.{IsTaken, command_outcome}
use Rattle.ntp_service.proofs.{Lookups.customer_at-with_customer, Lookups.customer_at-with_customer-other, Lives.undone}
use Rattle.ntp_service.proofs.{KeptLives.kept-done, Holders.taken-so, Holders.terms-are}
use Rattle.ntp_reply.specs.Life.{Life, enrolment_in}
use Rattle.ntp_service.specs.declared.event.Event.TheVariants as event
use Rattle.ntp_service.proofs.Histories.{stands-step, stands-same, tells-one}

-- ---- the register after a command that is done
-- no command that is done takes a customer away
stays-customer : (c : Command) (o : Option CustomerState) → once_done (tally []) o c ≡ None → o ≡ None
stays-customer c o is = grind arith

-- its address has what the command makes of what it had
done-here : (r : Registry) (c : Command)
    → customer_at (after_command r c) (address_named c) ≡ once_done (tally []) (customer_at r (address_named c)) c
done-here r c = grind (arith, stays-customer, customer_at-with_customer)

-- all others have what they had
done-there : (r : Registry) (c : Command) (a : Address) → a ≢ address_named c → customer_at (after_command r c) a ≡ customer_at r a
done-there r c a ne = grind (arith, customer_at-with_customer-other)

-- ---- what a register does on a command
-- an address has terms, or none
by_terms : (P : Option Enrolment → Type 0) → P None → ((e : Enrolment) → P (Some e)) → (terms : Option Enrolment) → P terms
by_terms P out enrolled terms = grind arith

-- a refusal for what the address itself has is no neighbour's
own-refusal : (c : Command) (terms : Option Enrolment) → option_map_or is_foreign (refusal_of terms c) false ≡ false
own-refusal c = grind (arith, by_terms)

-- only a refusal has its outcome
told-refusal : (result : Result (Unit {0}) Refusal) (refusal : Refusal) → command_outcome result ≡ Refused refusal → result ≡ Err refusal
told-refusal result refusal is = grind arith

same-refusal : (one other : Refusal) → ◌≡◌ {A = Result (Unit {0}) Refusal} (Err one) (Err other) → one ≡ other
same-refusal one other is = cc

the-number : (o : Option ℕ) → IsSome o → (n : ℕ) × (o ≡ Some n)
the-number o h = grind (arith, true≢false)

module _ {A : Type 0} (r s : Registry) (c : Command) (history : List (Event A)) (stands : StandsFor r history) where
  abbrev order : Event A
  order = event.Command c

  abbrev life : Life
  life = life_of (own (address_named c) history)

  cause-is : (o : Option Refusal) → own_refusal r c ≡ o → refusal_of (enrolment_in life) c ≡ o
  cause-is o is = ap (λ t. refusal_of t c) (sym (terms-are r history stands (address_named c))) ∙ is

  -- and done, where nothing refuses it
  answer-is : (o : Option Refusal) → own_refusal r c ≡ o → option_map_or Refused (refusal_of (enrolment_in life) c) Done ≡ option_map_or Refused o Done
  answer-is o is = ap (λ o. option_map_or Refused o Done) (cause-is o is)

  -- a number that it asks for is held exactly where another address is enrolled with it
  way-taken : own_refusal r c ≡ None → IsSome (holder_in_way r c) ↔ IsTaken history order
  way-taken free = (there (number_wanted c) refl, back)
    where
      there : (o : Option ℕ) → number_wanted c ≡ o → IsSome (option_and_then (holder_of r) o) → IsTaken history order
      there None is h = absurd (true≢false (sym h))
      there (Some n) is h = (taken-so r history stands c n is (cause-is None free)).0 h

      back : IsTaken history order → IsSome (holder_in_way r c)
      back h = subst (λ o. IsSome (option_and_then (holder_of r) o)) (sym h.1.0)
          ((taken-so r history stands c h.0 h.1.0 (cause-is None free)).1 h)

  -- what is held was asked for
  wants-number : (o : Option ℕ) → IsSome (option_and_then (holder_of r) o) → IsSome o
  wants-number None held = held
  wants-number (Some n) held = refl

  -- it is refused for what the address has
  refused-tells : (refusal : Refusal) → own_refusal r c ≡ Some refusal → s ≡ r → TellsOne history order (Refused refusal) s
  refused-tells refusal is same =
      let refused = answer-is (Some refusal) is in
      tells-one history order (Refused refusal) s
      (ap (λ o. option_map_or is_foreign o false) (sym is) ∙ own-refusal c (terms_at r (address_named c)))
      (sym refused) (λ taken. let done : Refused refusal ≡ Done = sym refused ∙ taken.1.1 in cc)
      (subst (λ x. StandsFor x (history ++ order ∷ [])) (sym same) (stands-same r history order stands (undone c life (λ done. cc))))

  -- it is done
  done-tells : own_refusal r c ≡ None → (IsTaken history order → ⊥) → s ≡ after_command r c → Agrees s → TellsOne history order Done s
  done-tells free untaken ok agrees =
      let plain = sym (cause-is None free) in
      tells-one history order Done s refl (ap (λ o. option_map_or Refused o Done) plain) untaken
      (stands-step r s history order stands
      (ap (λ x. customer_at x (address_named c)) ok ∙ done-here r c ∙ ap (λ o. once_done (tally []) o c) (stands.entries (address_named c))
      ∙ kept-done c life ∙ ap (λ o. option_map short (if is_some o then life else once_done [] life c)) plain)
      (λ a ne. ap (λ x. customer_at x a) ok ∙ done-there r c a ne)
      agrees)

  -- it is refused for the number that it asks for, or for want of memory
  foreign-tells : (refusal : Refusal) → own_refusal r c ≡ None → is_foreign refusal ≡ true → IsSome (number_wanted c)
      → (Refused refusal ≡ Refused KeyTaken) ↔ IsTaken history order → s ≡ r → TellsOne history order (Refused refusal) s
  foreign-tells refusal free foreign asks taken same = record {
    as_model = λ e. absurd (true≢false (sym foreign ∙ e));
    cause = record {
      taken = taken;
      memory = λ h. let n = the-number (number_wanted c) asks in (n.0, (n.1, answer-is None free));
    };
    stands = subst (λ (b : Bool). StandsFor s (if b then history else history ++ order ∷ [])) (sym foreign)
        (subst (λ x. StandsFor x history) (sym same) stands);
  }

  answers-tells : (result : Result (Unit {0}) Refusal) → AnswersCommand r s c result → Agrees s → TellsOne history order (command_outcome result) s
  answers-tells result d agrees = by_cause (own_refusal r c) refl
    where
      by_result : (x : Result (Unit {0}) Refusal) → AnswersCommand r s c x → own_refusal r c ≡ None → TellsOne history order (command_outcome x) s
      by_result (Ok done) d free =
          done-tells free (λ h. let e = d.taken free ((way-taken free).1 h) in cc) d.done agrees
      by_result (Err refusal) d free = by_holder (holder_in_way r c) refl
        where
          by_holder : (o : Option Address) → holder_in_way r c ≡ o → TellsOne history order (Refused refusal) s
          by_holder None is =
              let memory = d.memory free is in
              foreign-tells refusal free (ap is_foreign memory.0) memory.1
              (λ h. let e = memory.0 in cc, λ h. let held = subst IsSome is ((way-taken free).1 h) in absurd (true≢false (sym held))) d.kept
          by_holder (Some holder) is =
              let held : IsSome (holder_in_way r c) = ap is_some is in
              let taken = same-refusal refusal KeyTaken (d.taken free held) in
              foreign-tells refusal free (ap is_foreign taken) (wants-number (number_wanted c) held)
              (λ h. (way-taken free).0 held, λ h. ap Refused taken) d.kept

      by_cause : (o : Option Refusal) → own_refusal r c ≡ o → TellsOne history order (command_outcome result) s
      by_cause None free = by_result result d free
      by_cause (Some refusal) is =
          let e = d.own refusal is in
          subst (λ x. TellsOne history order (command_outcome x) s) (sym e)
          (refused-tells refusal is (subst (λ x. OnErr x (s ≡ r)) e d.kept))

-- what the service tells of a command
pub record Told (A : Type 0) (r s : Registry) (c : Command) (result : Result (Unit {0}) Refusal) : Type 0 where
  pub tells : (history : List (Event A)) → StandsFor r history → TellsOne history (event.Command c) (command_outcome result) s
  pub taken : (history : List (Event A)) → StandsFor r history → (result ≡ Err KeyTaken) ↔ IsTaken history (event.Command c)

pub told-of : {A : Type 0} (r s : Registry) (c : Command) (result : Result (Unit {0}) Refusal) → AnswersCommand r s c result → Agrees s → Told A r s c result
told-of r s c result d agrees = record {
  tells = λ history stands. answers-tells r s c history stands result d agrees;
  taken = λ history stands.
      let t = (answers-tells r s c history stands result d agrees).cause.taken in
      (λ h. t.0 (ap command_outcome h), λ h. told-refusal result KeyTaken (t.1 h));
}
