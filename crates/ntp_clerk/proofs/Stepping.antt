-- Steps from keys that an address holds to those that are wanted of it.
use Rattle.std.proofs.Common.{◌≡◌, ◌≢◌, ◌⊎◌, ℕ, ◌==◌, Bool, true, false, Option, Some, None, inl, inr, eqb-true, eq-eqb, true≢false, List, [], ◌∷◌, ◌++◌, map, get_or, refl, sym, ap, ◌∙◌, subst, arith, ⊎_elim, rules}
use Rattle.std.specs.Prelude.{if◌then◌else◌, Contains, All, fold, IfSome, not, ◌&&◌, ◌||◌, option_map, option_to_list, IsTrue, ◌↔◌}
use Rattle.std.specs.{Bool.then_some, Option.is_some, Option.option_flatten, declared.num.NonZeroU16.NonZeroU16}
use Rattle.std.proofs.lemmas.Bool.{ne_eqb}
use Rattle.std.proofs.lemmas.List.Elements.{All-nil, All-cons, All-head, All-tail, All-weaker}
use Rattle.ntp_customer.specs.{declared.numbered_key.NumberedKey.NumberedKey, Customer.Enrolment, Customer.numbers_in}
use Rattle.ntp_customer.proofs.PublicLaws.{Contains-map}
use Rattle.ntp_service.specs.{declared.address.Address.Address, Registry.Registry, Registry.terms_at}
use Rattle.ntp_service.specs.declared.command.Command.{Command}
use Rattle.ntp_service.specs.Commands.{address_named, number_wanted, refusal_of}
use Rattle.ntp_service.specs.declared.command.Command.TheVariants as command
use Rattle.ntp_clerk.specs.{declared.wanted.GivenKey.GivenKey, declared.wanted.Terms.Terms}
use Rattle.ntp_clerk.specs.Leading.{Holds, ends, enrolment_with, key_given, AreTwo, IsNeededAt, KeepsNoKey}
use Rattle.ntp_clerk.specs.Steps.{done_in, rebudgeting, terms_after, AreDone, Frees, Goes, IsFree, Moves, OnlyWanted}

-- ---- members

pub Contains-cases : {X : Type 0} → (x : X) (xs : List X) (y : X) → Contains (x ∷ xs) y → (x ≡ y) ⊎ Contains xs y
Contains-cases x xs y e = grind arith

pub Contains-none : {X : Type 0} → (y : X) → Contains [] y → ⊥
Contains-none y is = omega (arith, is.1)

pub Contains-one : {X : Type 0} → (x y : X) → Contains (x ∷ []) y → x ≡ y
Contains-one x y is = ⊎_elim (λ e. e) (λ none. absurd (Contains-none y none)) (Contains-cases x [] y is)

pub Contains-two : {X : Type 0} → (x1 x2 y : X) → Contains (x1 ∷ x2 ∷ []) y → (x1 ≡ y) ⊎ (x2 ≡ y)
Contains-two x1 x2 y is = ⊎_elim inl (λ more. inr (Contains-one x2 y more)) (Contains-cases x1 (x2 ∷ []) y is)

first-of : (keys : List NumberedKey) (k : NumberedKey) (ks : List NumberedKey) → All (Contains keys) (k ∷ ks) → Contains keys k
first-of keys k ks all = All-head (Contains keys) k ks all

second-of : (keys : List NumberedKey) (k l : NumberedKey) → All (Contains keys) (k ∷ l ∷ []) → Contains keys l
second-of keys k l all = All-head (Contains keys) l [] (All-tail (Contains keys) k (l ∷ []) all)

-- ---- commands that are done one after another

abbrev enrolled : List NumberedKey → ℕ → Option Enrolment
enrolled keys budget = Some (record { keys = keys; budget = budget })

-- the number that a command asks for, if it asks for one, is in an enrolment
abbrev AsksOf : Option Enrolment → Command → Type 0
AsksOf wanted c = IfSome (number_wanted c) (Holds wanted)

goes-enrol : {a : Address} {cs : List Command} {new : Option Enrolment} → (g : GivenKey) (budget : NonZeroU16) → Holds new (key_given g).number
    → Goes (enrolled (key_given g ∷ []) budget.value) cs new → Goes None (command.Enrol a g.number g.key budget ∷ cs) new
goes-enrol {a} {cs} {new} g budget wanted more = record {
  leads = more.leads;
  refused = (refl, more.refused);
  asks = All-cons (AsksOf new) (command.Enrol a g.number g.key budget) cs wanted more.asks;
}

module _ {a : Address} {budget : ℕ} {cs : List Command} {new : Option Enrolment} where
  goes-rollover : (k : NumberedKey) (g : GivenKey) → k.number ≢ (key_given g).number → Holds new (key_given g).number
      → Goes (enrolled (k ∷ key_given g ∷ []) budget) cs new → Goes (enrolled (k ∷ []) budget) (command.Rollover a g.number g.key ∷ cs) new
  goes-rollover k g apart wanted more = grind (arith, more, ne_eqb, All-cons)

  goes-retire : (g : GivenKey) (k : NumberedKey) → k.number ≢ (key_given g).number → Goes (enrolled (k ∷ []) budget) cs new
      → Goes (enrolled (key_given g ∷ k ∷ []) budget) (command.Retire a g.number ∷ cs) new
  goes-retire g k apart more = grind (arith, more, eq-eqb, ne_eqb, All-cons)

goes-end : (a : Address) (keys : List NumberedKey) (held wanted : Terms) → keys ≡ (enrolment_with wanted).keys
    → Goes (enrolled keys held.budget.value) (done_in (rebudgeting a held wanted ∷ [])) (Some (enrolment_with wanted))
goes-end a keys held wanted same = decided (held.budget.value == wanted.budget.value) refl
  where
    decided : (b : Bool) → (held.budget.value == wanted.budget.value) ≡ b
        → Goes (enrolled keys held.budget.value) (done_in ((if b then None else Some (command.Budget a wanted.budget)) ∷ [])) (Some (enrolment_with wanted))
    decided true e = record {
      leads = ap (λ keys. enrolled keys held.budget.value) same
          ∙ ap (λ budget. enrolled (enrolment_with wanted).keys budget) (eqb-true held.budget.value wanted.budget.value e);
      refused = tt;
      asks = All-nil (AsksOf (Some (enrolment_with wanted)));
    }
    decided false e = record {
      leads = ap (λ keys. enrolled keys wanted.budget.value) same;
      refused = (refl, tt);
      asks = All-cons (AsksOf (Some (enrolment_with wanted))) (command.Budget a wanted.budget) [] tt (All-nil (AsksOf (Some (enrolment_with wanted))));
    }

abbrev pub roll : Address → Option GivenKey → Option Command
roll a newer = option_map (λ key. command.Rollover a key.number key.key) newer

-- what makes of keys the wanted ones, in their order: by whether the older one is the wanted one, and whether there are two
abbrev pub arranging : Address → Terms → Terms → Bool → Bool → List (Option Command)
arranging a held wanted first two =
    then_some (not first && not two) (command.Rollover a wanted.older.number wanted.older.key) ∷ then_some (not first) (command.Retire a held.older.number)
    ∷ option_flatten (then_some (not first || not two) (roll a wanted.newer)) ∷ rebudgeting a held wanted ∷ []

abbrev pub IsKeeping : Address → Command → Type 0
IsKeeping a c = (address_named c ≡ a) × (ends c ≡ false)

-- what holds of each of four steps holds of those that are done
all-done : (P : Command → Type 0) (s t u v : Option Command) → IfSome s P → IfSome t P → IfSome u P → IfSome v P
    → All P (done_in (s ∷ t ∷ u ∷ v ∷ []))
all-done P s t u v p q r z = more s (t ∷ u ∷ v ∷ []) p (more t (u ∷ v ∷ []) q (more u (v ∷ []) r (more v [] z (All-nil P))))
  where
    more : (step : Option Command) (steps : List (Option Command)) → IfSome step P → All P (done_in steps) → All P (done_in (step ∷ steps))
    more step steps e f = grind (arith, All-cons)

pub arranging-keeps : (a : Address) (held wanted : Terms) (first two : Bool) → All (IsKeeping a) (done_in (arranging a held wanted first two))
arranging-keeps a held wanted first two =
    all-done (IsKeeping a) (then_some (not first && not two) (command.Rollover a wanted.older.number wanted.older.key))
    (then_some (not first) (command.Retire a held.older.number)) (option_flatten (then_some (not first || not two) (roll a wanted.newer)))
    (rebudgeting a held wanted) (if-done (not first && not two) _ (refl, refl)) (if-done (not first) _ (refl, refl))
    (rolled (not first || not two) wanted.newer) (budget (held.budget.value == wanted.budget.value))
  where
    if-done : (b : Bool) (c : Command) → IsKeeping a c → IfSome (then_some b c) (IsKeeping a)
    if-done b c e = grind arith

    rolled : (b : Bool) (newer : Option GivenKey) → IfSome (option_flatten (then_some b (roll a newer))) (IsKeeping a)
    rolled b newer = grind arith

    budget : (b : Bool) → IfSome (if b then None else Some (command.Budget a wanted.budget)) (IsKeeping a)
    budget b = grind arith

abbrev made : GivenKey → Option GivenKey → NonZeroU16 → Terms
made older newer budget = record { older = older; newer = newer; budget = budget }

-- what enrols an address, and gives it its newer key
pub enrolled-goes : (a : Address) (terms : Terms) (newer : Option Command) → AreTwo terms → newer ≡ roll a terms.newer
    → Goes None (command.Enrol a terms.older.number terms.older.key terms.budget ∷ done_in (newer ∷ [])) (Some (enrolment_with terms))
enrolled-goes a terms newer two is = rw is (by-newer terms.older terms.newer terms.budget two)
  where
    by-newer : (older : GivenKey) (newer : Option GivenKey) (budget : NonZeroU16) → AreTwo (made older newer budget)
        → Goes None (command.Enrol a older.number older.key budget ∷ done_in (roll a newer ∷ [])) (Some (enrolment_with (made older newer budget)))
    by-newer older newer budget e = grind (arith, budget, goes-enrol, All-nil, goes-rollover)

abbrev pub Arranged : Address → Terms → Terms → Bool → Type 0
Arranged a held wanted first =
    OnlyWanted (Some (enrolment_with held)) (Some (enrolment_with wanted)) → AreTwo held → AreTwo wanted
    → IsTrue first ↔ (key_given held.older ≡ key_given wanted.older)
    → Goes (Some (enrolment_with held)) (done_in (arranging a held wanted first (is_some held.newer))) (Some (enrolment_with wanted))

arranged-newer : (a : Address) (ho : GivenKey) (hn : Option GivenKey) (hb : NonZeroU16) (wo : GivenKey) (wn : Option GivenKey) (wb : NonZeroU16) (first : Bool)
    → Arranged a (made ho hn hb) (made wo wn wb) first
arranged-newer a ho None hb wo None wb true only two_h two_w first =
    goes-end a (key_given ho ∷ []) (made ho None hb) (made wo None wb) (ap (λ k. k ∷ []) (first.0 refl))
arranged-newer a ho None hb wo (Some w) wb true only two_h two_w first =
    goes-rollover (key_given ho) w (subst (λ k. k.number ≢ (key_given w).number) (sym (first.0 refl)) two_w) (1, omega arith, refl)
    (goes-end a (key_given ho ∷ key_given w ∷ []) (made ho None hb) (made wo (Some w) wb) (ap (λ k. k ∷ key_given w ∷ []) (first.0 refl)))
arranged-newer a ho (Some h) hb wo None wb true only two_h two_w first =
    absurd (two_h (ap (λ k. k.number) (first.0 refl ∙ Contains-one (key_given wo) (key_given h) (second-of (key_given wo ∷ []) (key_given ho) (key_given h) only))))
arranged-newer a ho (Some h) hb wo (Some w) wb true only two_h two_w first = ⊎_elim
    (λ there. absurd (two_h (ap (λ k. k.number) (first.0 refl ∙ there))))
    (λ there. goes-end a (key_given ho ∷ key_given h ∷ []) (made ho (Some h) hb) (made wo (Some w) wb)
    (ap (λ k. k ∷ key_given h ∷ []) (first.0 refl) ∙ ap (λ k. key_given wo ∷ k ∷ []) (sym there)))
    (Contains-two (key_given wo) (key_given w) (key_given h) (second-of (key_given wo ∷ key_given w ∷ []) (key_given ho) (key_given h) only))
arranged-newer a ho hn hb wo None wb false only two_h two_w first =
    absurd (true≢false (sym (first.1 (sym (Contains-one (key_given wo) (key_given ho)
    (first-of (key_given wo ∷ []) (key_given ho) (option_to_list (option_map key_given hn)) only))))))
arranged-newer a ho None hb wo (Some w) wb false only two_h two_w first = ⊎_elim
    (λ there. absurd (true≢false (sym (first.1 (sym there)))))
    (λ there.
    let apart : (key_given wo).number ≢ (key_given ho).number = subst (λ k. (key_given wo).number ≢ k.number) there two_w in
    goes-rollover (key_given ho) wo (λ e. apart (sym e)) (0, omega arith, refl) (goes-retire ho (key_given wo) apart
    (goes-rollover (key_given wo) w two_w (1, omega arith, refl) (goes-end a (key_given wo ∷ key_given w ∷ []) (made ho None hb) (made wo (Some w) wb) refl))))
    (Contains-two (key_given wo) (key_given w) (key_given ho) (first-of (key_given wo ∷ key_given w ∷ []) (key_given ho) [] only))
arranged-newer a ho (Some h) hb wo (Some w) wb false only two_h two_w first = ⊎_elim
    (λ there. absurd (true≢false (sym (first.1 (sym there)))))
    (λ there. ⊎_elim
    (λ next.
    goes-retire ho (key_given h) (λ e. two_h (sym e))
    (goes-rollover (key_given h) w (subst (λ k. k.number ≢ (key_given w).number) next two_w) (1, omega arith, refl) (goes-end a (key_given h ∷ key_given w ∷ []) (made ho (Some h) hb) (made wo (Some w) wb) (ap (λ k. k ∷ key_given w ∷ []) (sym next)))))
    (λ next. absurd (two_h (ap (λ k. k.number) (sym there ∙ next))))
    (Contains-two (key_given wo) (key_given w) (key_given h) (second-of (key_given wo ∷ key_given w ∷ []) (key_given ho) (key_given h) only)))
    (Contains-two (key_given wo) (key_given w) (key_given ho) (first-of (key_given wo ∷ key_given w ∷ []) (key_given ho) (key_given h ∷ []) only))

pub arranged : (a : Address) (held wanted : Terms) (first : Bool) → Arranged a held wanted first
arranged a held wanted first = arranged-newer a held.older held.newer held.budget wanted.older wanted.newer wanted.budget first

-- ---- keys that are not wanted are taken

-- keys differ, where one of them is not wanted
keys-differ : (e f : Enrolment) (k : NumberedKey) → Contains e.keys k → (Contains f.keys k → ⊥) → Some e ≢ Some f
keys-differ e f k has not_wanted same = let alike : e ≡ f = cc in not_wanted (subst (λ (g : Enrolment). Contains g.keys k) alike has)

-- what has been left of keys is wanted, where one of two is taken
frees-one : (a : Address) (e f : Enrolment) (left other : NumberedKey) (c : Command) → (address_named c ≡ a) × (ends c ≡ false)
    → refusal_of (Some e) c ≡ None → number_wanted c ≡ None → terms_after (Some e) c ≡ enrolled (left ∷ []) e.budget → Contains e.keys left → Contains f.keys left
    → Contains e.keys other → (Contains f.keys other → ⊥) → Frees a (Some e) (Some f) (c ∷ [])
frees-one a e f left other c keeping refused asks after held wanted has not_wanted =
    let differs = keys-differ e f other has not_wanted in
    record {
      refused = (refused, tt);
      asks = All-cons (λ c. number_wanted c ≡ None) c [] asks (All-nil (λ c. number_wanted c ≡ None));
      needed = All-cons (IsNeededAt a (Some e) (Some f)) c []
          (record { named = keeping.0; differs = differs; ends_none = λ ends. absurd (true≢false (sym ends ∙ keeping.1)) })
          (All-nil (IsNeededAt a (Some e) (Some f)));
      kept = rw after (record { same = λ e. absurd (differs e); keeps = λ none. absurd (none left (0, omega arith, refl) wanted) });
      only = rw after (All-cons (Contains f.keys) left [] wanted (All-nil (Contains f.keys)));
    }

module _ (a : Address) (older newer : GivenKey) (budget : ℕ) (f : Enrolment) where
  abbrev keys : List NumberedKey
  keys = key_given older ∷ key_given newer ∷ []

  older-there : Contains keys (key_given older)
  older-there = (0, omega arith, refl)

  newer-there : Contains keys (key_given newer)
  newer-there = (1, omega arith, refl)

  pub frees-none : Contains f.keys (key_given older) → Contains f.keys (key_given newer) → Frees a (enrolled keys budget) (Some f) []
  frees-none one other = search (rules, one, All-nil, budget, All-cons)

  pub frees-newer : (key_given older).number ≢ (key_given newer).number → Contains f.keys (key_given older) → (Contains f.keys (key_given newer) → ⊥)
      → Frees a (enrolled keys budget) (Some f) (command.Retire a newer.number ∷ [])
  frees-newer two one not_other = search (rules, one, ne_eqb, eq-eqb, frees-one, older-there, newer-there)

  pub frees-older : (key_given older).number ≢ (key_given newer).number → (Contains f.keys (key_given older) → ⊥) → Contains f.keys (key_given newer)
      → Frees a (enrolled keys budget) (Some f) (command.Retire a older.number ∷ [])
  frees-older two not_one other =
      let apart = ne_eqb (key_given newer).number (key_given older).number (λ e. two (sym e)) in
      let here = eq-eqb (key_given older).number (key_given older).number refl in
      frees-one a _ f (key_given newer) (key_given older) (command.Retire a older.number) (refl, refl)
      (rw here refl) refl (rw (apart, here) refl) newer-there other older-there not_one

-- ---- one address moves

-- an address has none of the keys that are wanted of it, only where none is wanted
keeps-key : (wanted held : Option Enrolment) → KeepsNoKey wanted wanted → KeepsNoKey held wanted
keeps-key None None none = tt
keeps-key None (Some e) none = tt
keeps-key (Some f) None none = tt
keeps-key (Some f) (Some e) none = λ key has wanted. none key wanted wanted

module _ (r s : Registry) (a : Address) (wanted : Option Enrolment) (old new cs : List Command) (noted : new ≡ old ++ cs) (done : AreDone r a cs s) where
  pub moves-freed : (held : Option Enrolment) → held ≡ terms_at r a → Frees a held wanted cs → Moves r a wanted old new s × OnlyWanted (terms_at s a) wanted
  moves-freed held is frees =
      let here = subst (λ h. Frees a h wanted cs) is frees in (
        record { more = cs; noted = noted; done = done; needed = here.needed; kept = rw done.here here.kept },
        rw done.here here.only,
      )

  pub moves-given : (held : Option Enrolment) → held ≡ terms_at r a → All (IsNeededAt a held wanted) cs → Goes held cs wanted
      → Moves r a wanted old new s × (terms_at s a ≡ wanted)
  moves-given held is needed goes =
      let has = done.here ∙ ap (λ h. fold terms_after h cs) (sym is) ∙ goes.leads in (
        record {
          more = cs;
          noted = noted;
          done = done;
          needed = subst (λ h. All (IsNeededAt a h wanted) cs) is needed;
          kept = rw has (record { same = λ e. sym e; keeps = keeps-key wanted (terms_at r a) });
        },
        has,
      )

-- ---- numbers that others do not hold

pub free-of-none : (r : Registry) (cs : List Command) → All (λ c. number_wanted c ≡ None) cs → All (IsFree r) cs
free-of-none r cs all = All-weaker (λ c. number_wanted c ≡ None) (IsFree r) (λ c none other ne. rw none tt) cs all

-- a number of keys that are wanted is wanted
pub only-holds : (held wanted : Option Enrolment) (n : ℕ) → OnlyWanted held wanted → Holds held n → Holds wanted n
only-holds None wanted n only there = absurd (Contains-none n there)
only-holds (Some e) None n only there = absurd only
only-holds (Some e) (Some f) n only there = by-keys e.keys only there
  where
    by-keys : (keys : List NumberedKey) → All (Contains f.keys) keys → Contains (map (λ k. k.number) keys) n → Contains (numbers_in f) n
    by-keys [] all there = absurd (Contains-none n there)
    by-keys (k ∷ ks) all there = ⊎_elim
        (λ same. subst (Contains (numbers_in f)) same (Contains-map (λ k. k.number) f.keys k (All-head (Contains f.keys) k ks all)))
        (λ more. by-keys ks (All-tail (Contains f.keys) k ks all) more)
        (Contains-cases k.number (map (λ k. k.number) ks) n there)

-- commands that ask only for numbers of one address, which others do not hold
pub free-to-give : (r : Registry) (wanted : Option Enrolment) (a : Address) (cs : List Command)
    → ((other : Address) (n : ℕ) → other ≢ a → Holds wanted n → Holds (terms_at r other) n → ⊥)
    → All (λ c. address_named c ≡ a) cs → All (AsksOf wanted) cs → All (IsFree r) cs
free-to-give r wanted a cs lack named asks = λ i d inside. one (get_or cs i d) (named i d inside) (asks i d inside)
  where
    one : (c : Command) → address_named c ≡ a → AsksOf wanted c → IsFree r c
    one c here asks = λ other ne. by-number other (λ same. ne (same ∙ sym here)) (number_wanted c) asks
      where
        by-number : (other : Address) → other ≢ a → (o : Option ℕ) → IfSome o (Holds wanted) → IfSome o (λ n. Holds (terms_at r other) n → ⊥)
        by-number other ne None asks = tt
        by-number other ne (Some n) asks = lack other n ne asks
