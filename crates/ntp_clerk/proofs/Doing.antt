-- What commands that are done make of a service.
use Rattle.std.proofs.Common.{◌≡◌, ◌≢◌, Bool, true, true≢false, cond, Option, Some, None, List, [], ◌∷◌, ◌++◌, map, length, drop, get_or, ℕ, zero, suc, ◌+◌, ◌<◌, ◌==◌, eq-eqb, arith, append-nil, append_assoc, ⊎_elim, refl, sym, ap, ◌∙◌, subst}
use Rattle.std.specs.Prelude.{option_and_then, fold, find, if◌then◌else◌, is_some, Contains, IfSome, IsSome, Err}
use Rattle.std.specs.{Option.option_map_or, Ordering.eq_by_cmp, Ordering.nat_cmp, declared.alloc.Global.Global}
use Rattle.std.specs.FinMap as map
use Rattle.std.proofs.lemmas.List.{map-append, drop_more}
use Rattle.std.proofs.lemmas.Cmp.{eq_by_cmp_equiv, nat_cmp_total}
use Rattle.std.proofs.{lemmas.List.Elements.All-head, lemmas.List.Elements.All-tail, lemmas.List.Sums.fold-append}
use Rattle.ntp_customer.specs.{Tally.tally, declared.numbered_key.NumberedKey.NumberedKey}
use Rattle.ntp_customer.specs.Customer.{CustomerState, Account, Enrolment, enrolment_at, numbers_in, numbers_of}
use Rattle.ntp_service.specs.{declared.address.Address.Address, declared.command.Command.Command, declared.event.Event.Event}
use Rattle.ntp_service.specs.{declared.outcome.Outcome.Outcome, declared.refusal.Refusal.Refusal}
use Rattle.ntp_service.specs.{declared.refusal.Refusal.TheVariants.NoMemory, Headline.StandsFor, Headline.TellsOne}
use Rattle.ntp_service.specs.declared.command.Command.TheVariants.{Revoke}
use Rattle.ntp_service.specs.declared.event.Event.TheVariants as event
use Rattle.ntp_service.specs.declared.outcome.Outcome.TheVariants as outcome
use Rattle.ntp_service.specs.Commands.{address_named, number_wanted, once_done, refusal_of}
use Rattle.ntp_service.specs.Registry.{Registry, Agrees, AnswersCommand, customer_at, terms_at, numbers_at, after_command, holder_in_way, holder_of, holders_after}
use Rattle.ntp_service.proofs.PublicLaws.{customer_at-with_customer, customer_at-with_customer-other, same_or_other_address, Tells-nil, Tells-one, Tells-append}
use Rattle.ntp_clerk.specs.Leading.{Holds, LeadsTo}
use Rattle.ntp_clerk.specs.Steps.{done_in, terms_after, AreDone, CanDo, CanDoAll, IsFree}
use Rattle.ntp_clerk.proofs.Stepping.{Contains-cases, Contains-none}

-- ---- one command

-- what its address is enrolled with, by what it was enrolled with
terms-of-some : (x : CustomerState) (a : Option Account) (c : Command)
    → option_map_or enrolment_at (once_done (tally []) (Some (record x { account = a })) c) None ≡ terms_after (enrolment_at (record x { account = a })) c
terms-of-some x a c = grind arith

terms-of : (o : Option CustomerState) (c : Command)
    → option_map_or enrolment_at (once_done (tally []) o c) None ≡ terms_after (option_map_or enrolment_at o None) c
terms-of o c = grind (arith, terms-of-some)

-- a command that changes no customer had none to change
absent : (o : Option CustomerState) (c : Command) → once_done (tally []) o c ≡ None → o ≡ None
absent o c e = grind arith

-- who is known is known still
still : (o : Option CustomerState) (c : Command) → IsSome o → IsSome (once_done (tally []) o c)
still o c e = grind arith

abbrev made : Registry → Command → Option CustomerState → Registry
made r c o = option_map_or (λ x. record { customers = map.insert r.customers (address_named c) x; holders = holders_after r c }) o r

module _ (r : Registry) (c : Command) where
  customer-here : customer_at (after_command r c) (address_named c) ≡ once_done (tally []) (customer_at r (address_named c)) c
  customer-here = by-customer (once_done (tally []) (customer_at r (address_named c)) c) refl
    where
      by-customer : (o : Option CustomerState) → once_done (tally []) (customer_at r (address_named c)) c ≡ o
          → customer_at (made r c o) (address_named c) ≡ o
      by-customer o e = grind (arith, absent, customer_at-with_customer)

  customer-there : (other : Address) → other ≢ address_named c → customer_at (after_command r c) other ≡ customer_at r other
  customer-there other ne = by-customer (once_done (tally []) (customer_at r (address_named c)) c)
    where
      by-customer : (o : Option CustomerState) → customer_at (made r c o) other ≡ customer_at r other
      by-customer o = grind (arith, customer_at-with_customer-other)

  pub is-done : (s : Registry) → s ≡ after_command r c
      → ((history : List (Event Global)) → StandsFor r history → TellsOne history (event.Command c) outcome.Done s)
      → AreDone r (address_named c) (c ∷ []) s
  is-done s done tells = record {
    leads = λ history stands. Tells-one history (event.Command c) outcome.Done s (tells history stands);
    here = ap (λ t. terms_at t (address_named c)) done ∙ ap (λ o. option_map_or enrolment_at o None) customer-here
        ∙ terms-of (customer_at r (address_named c)) c;
    others = λ other ne. ap (λ t. terms_at t other) done ∙ ap (λ o. option_map_or enrolment_at o None) (customer-there other ne);
    known = λ other was. subst (λ t. IsSome (customer_at t other)) (sym done) (⊎_elim
        (λ same. subst (λ q. IsSome (customer_at (after_command r c) q)) (sym same)
        (rw customer-here (still (customer_at r (address_named c)) c (subst (λ q. IsSome (customer_at r q)) same was))))
        (λ ne. rw (customer-there other ne) was) (same_or_other_address other (address_named c)));
  }

-- ---- nothing but want of memory refuses a command

-- a number that keys have is found among them
held-found : (keys : List NumberedKey) (n : ℕ) → Contains (map (λ k. k.number) keys) n → is_some (find (λ k. k.number == n) keys) ≡ true
held-found [] n there = absurd (omega (arith, there.1))
held-found (k ∷ ks) n (zero, inside, is) = let same = eq-eqb k.number n is in rw same refl
held-found (k ∷ ks) n (suc i, inside, is) = by-test (k.number == n) (held-found ks n (i, omega (arith, inside), is))
  where
    by-test : (b : Bool) → is_some (find (λ k. k.number == n) ks) ≡ true → is_some (if b then Some k else find (λ k. k.number == n) ks) ≡ true
    by-test b e = grind arith

-- who asks for a number and is not refused did not hold it
held-not : (held : Option Enrolment) (c : Command) (n : ℕ) → refusal_of held c ≡ None → number_wanted c ≡ Some n → Holds held n → ⊥
held-not held c n e f g = grind (arith, held-found)

holds-at : (r : Registry) (q : Address) → numbers_at r q ≡ option_map_or numbers_in (terms_at r q) []
holds-at r q = by-customer (customer_at r q)
  where
    by-customer : (o : Option CustomerState) → option_map_or (λ c. option_map_or numbers_in (enrolment_at c) []) o []
        ≡ option_map_or numbers_in (option_map_or enrolment_at o None) []
    by-customer o = grind arith

module _ (r : Registry) (c : Command) (can : CanDo r c) (agrees : Agrees r) where
  -- nobody holds the number that it asks for
  none-in-way : (asked : Option ℕ) (q : Address) → number_wanted c ≡ asked → option_and_then (holder_of r) asked ≡ Some q → ⊥
  none-in-way None q asks held = absurd cc
  none-in-way (Some n) q asks held =
      let holds : Holds (terms_at r q) n = subst (λ ns. Contains ns n) (holds-at r q) (agrees.enrolled q n held) in
      ⊎_elim (λ same. held-not (terms_at r (address_named c)) c n can.own asks (subst (λ q. Holds (terms_at r q) n) same holds))
      (λ ne. (subst (λ o. IfSome o (λ n. Holds (terms_at r q) n → ⊥)) asks (can.free q ne)) holds)
      (same_or_other_address q (address_named c))

  pub only-memory : (s : Registry) (refusal : Refusal) → AnswersCommand r s c (Err refusal) → refusal ≡ NoMemory
  only-memory s refusal answers = by-holder (holder_in_way r c) refl
    where
      by-holder : (o : Option Address) → holder_in_way r c ≡ o → refusal ≡ NoMemory
      by-holder o e = grind (arith, can, none-in-way)

-- ---- commands one after another

abbrev done : Command → Event Global × Outcome
done c = (event.Command c, outcome.Done)

pub leads-none : (r : Registry) → LeadsTo r [] r
leads-none r = λ history stands. Tells-nil history r stands

pub leads-append : (r s t : Registry) (xs ys : List Command) → LeadsTo r xs s → LeadsTo s ys t → LeadsTo r (xs ++ ys) t
leads-append r s t xs ys first more = λ history stands.
    rw (map-append done xs ys) (
    Tells-append history (map done xs) (map done ys) s t (first history stands)
    (λ stands. more _ stands)
    )

pub done-none : (r : Registry) (a : Address) → AreDone r a [] r
done-none r a = record { leads = leads-none r; here = refl; others = λ other ne. refl; known = λ other was. was }

pub done-append : (r s t : Registry) (a : Address) (xs ys : List Command) → AreDone r a xs s → AreDone s a ys t → AreDone r a (xs ++ ys) t
done-append r s t a xs ys first more = record {
  leads = leads-append r s t xs ys first.leads more.leads;
  here = more.here ∙ ap (λ o. fold terms_after o ys) first.here ∙ sym (fold-append terms_after (terms_at r a) xs ys);
  others = λ other ne. more.others other ne ∙ first.others other ne;
  known = λ other was. more.known other (first.known other was);
}

-- ---- steps one after another

-- commands for an address are done so far, and those that are left can be done
pub record Going (from : Registry) (a : Address) (all old commands left : List Command) (now : Registry) : Type 0 where
  pub noted : commands ++ left ≡ old ++ all
  pub done : (s : Registry) → AreDone now a left s → AreDone from a all s
  pub can : CanDoAll now a left

pub going-none : (from : Registry) (a : Address) (all old : List Command) → CanDoAll from a all → Going from a all old old all from
going-none from a all old can = record { noted = refl; done = λ s done. done; can = can }

module _ (from now : Registry) (a : Address) (all old commands : List Command) (c : Command) (left : List Command)
    (going : Going from a all old commands (c ∷ left) now) where
  named : address_named c ≡ a
  named = All-head (λ c. address_named c ≡ a) c left going.can.named

  pub going-can : CanDo now c
  going-can = record { own = rw named going.can.refused.0; free = All-head (IsFree now) c left going.can.free }

  pub going-more : (s : Registry) (more : List Command) → AreDone now (address_named c) (c ∷ []) s → more ≡ commands ++ c ∷ []
      → Going from a all old more left s
  going-more s more one noted =
      let here : AreDone now a (c ∷ []) s = subst (λ a. AreDone now a (c ∷ []) s) named one in
      let those = All-tail (λ c. address_named c ≡ a) c left going.can.named in
      record {
        noted = ap (λ cs. cs ++ left) noted ∙ append_assoc commands (c ∷ []) left ∙ going.noted;
        done = λ t rest. going.done t (done-append now s t a (c ∷ []) left here rest);
        can = record {
          named = those;
          refused = rw here.here going.can.refused.1;
          free = λ k d inside other ne. rw (here.others other (λ same. ne (same ∙ sym (those k d inside))))
              (All-tail (IsFree now) c left going.can.free k d inside other ne);
        };
      }

pub going-all : (from now : Registry) (a : Address) (all old commands : List Command) → Going from a all old commands [] now
    → (commands ≡ old ++ all) × AreDone from a all now
going-all from now a all old commands going = (sym (append-nil commands) ∙ going.noted, going.done now (done-none now a))

-- what is left at a step
pub at-step : (steps : List (Option Command)) (i : ℕ) (d step : Option Command) → i < length steps → get_or steps i d ≡ step
    → done_in (drop i steps) ≡ done_in (step ∷ drop (i + 1) steps)
at-step steps i d step inside is = ap done_in (drop_more steps i d inside) ∙ ap (λ step. done_in (step ∷ drop (i + 1) steps)) is

-- ---- numbers that a revocation frees

-- what is not there is not there once keys are removed; nor are those keys
stays-away : (m : map.FinMap nat_cmp Address) (ns : List ℕ) (n : ℕ) → map.get m n ≡ None → map.get (fold map.remove m ns) n ≡ None
stays-away m [] n none = none
stays-away m (k ∷ ks) n none = stays-away (map.remove m k) ks n (map.get-remove nat_cmp_total m k n ∙ if-none (eq_by_cmp nat_cmp n k) (map.get m n) none)
  where
    if-none : (b : Bool) (o : Option Address) → o ≡ None → cond b None o ≡ None
    if-none b o e = grind arith

removed : (m : map.FinMap nat_cmp Address) (ns : List ℕ) (n : ℕ) → Contains ns n → map.get (fold map.remove m ns) n ≡ None
removed m [] n there = absurd (Contains-none n there)
removed m (k ∷ ks) n there = ⊎_elim
    (λ same. stays-away (map.remove m k) ks n (map.get-remove nat_cmp_total m k n
    ∙ ap (λ b. cond b None (map.get m n)) (subst (λ k. eq_by_cmp nat_cmp n k ≡ true) (sym same) ((eq_by_cmp_equiv nat_cmp_total).refl n))))
    (removed (map.remove m k) ks n) (Contains-cases k ks n there)

-- nobody holds a number that an address held before it was revoked
pub revoked-free : (r s : Registry) (a q : Address) (n : ℕ) → s ≡ after_command r (Revoke a) → Agrees s → Holds (terms_at r a) n → Holds (terms_at s q) n → ⊥
revoked-free r s a q n after agrees held holds = by-customer (customer_at r a) refl
  where
    taken : holder_of s n ≡ Some q
    taken = agrees.held q n (subst (λ ns. Contains ns n) (sym (holds-at s q)) holds)

    by-customer : (o : Option CustomerState) → customer_at r a ≡ o → ⊥
    by-customer None is = Contains-none n (subst (λ o. Holds (option_map_or enrolment_at o None) n) is held)
    by-customer (Some x) is =
        let freed = removed r.holders (numbers_of x) n (subst (λ o. Holds (option_map_or enrolment_at o None) n) is held) in
        let now : holder_of (after_command r (Revoke a)) n ≡ None = rw is freed in
        true≢false (ap is_some (sym taken ∙ ap (λ t. holder_of t n) after ∙ now))
