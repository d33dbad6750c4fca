-- What is noted of wanted customers.
use Rattle.std.proofs.Common.{◌≡◌, ◌≢◌, ◌⊎◌, inl, inr, ℕ, suc, ◌<◌, length, take, get_or, Option, Some, None, Bool, true, false, true≢false, ⊎_elim, List, [], ◌∷◌, ◌++◌, map, refl, sym, ap, ◌∙◌, subst, arith}
use Rattle.std.specs.Prelude.{AllPairs, Contains, IfSome, IsSome, is_some, option_map, option_to_list, find, if◌then◌else◌}
use Rattle.std.specs.Option.{option_or}
use Rattle.std.proofs.lemmas.List.{get_or_default, get_or-take, length-take}
use Rattle.std.proofs.lemmas.List.Elements.{All-nil, All-push, All-contains_itself, Contains-push_cases, Contains-append_left, Contains-push, Contains-get_or}
use Rattle.std.proofs.{lemmas.List.Quantifiers.all_pairs_push, lemmas.List.Folds.find-append}
use Rattle.ntp_service.specs.{declared.address.Address.Address, Address.address_eq, Registry.Registry, Registry.terms_at}
use Rattle.ntp_service.proofs.PublicLaws.{same_or_other_address, address_eq_equiv, other-address}
use Rattle.ntp_customer.specs.Customer.{Enrolment, numbers_in}
use Rattle.ntp_customer.proofs.PublicLaws.{Contains-map}
use Rattle.ntp_clerk.specs.{declared.wanted.GivenKey.GivenKey, declared.wanted.Terms.Terms, declared.wanted.Wanted.Wanted}
use Rattle.ntp_clerk.specs.Leading.{enrolment_among, enrolment_with, key_given, AreApart, AreTwo, HasNumber, Holds}
use Rattle.ntp_clerk.specs.Steps.{Notes, NotesAll, NotesOne, OnlyWanted}
use Rattle.ntp_clerk.proofs.{Having.found, Having.none-found, Stepping.Contains-cases, Stepping.Contains-none, Stepping.only-holds}
use Rattle.std.proofs.lemmas.Bool.{cases_eq, cases_lt, false_from_ne_true}

-- ---- one number after another

module _ (number : ℕ) (old new : ℕ → Bool) (one : NotesOne number old new) where
  still : (n : ℕ) → old n ≡ true → new n ≡ true
  still n was = one.others n (λ same. true≢false (sym was ∙ ap old same ∙ one.free)) ∙ was

  only-one : (n : ℕ) → new n ≡ true → (old n ≡ true) ⊎ (n ≡ number)
  only-one n is = ⊎_elim (λ same. inr same) (λ ne. inl (sym (one.others n ne) ∙ is)) (cases_eq n number)

noted-kept : (numbers : List ℕ) (old new : ℕ → Bool) → NotesAll numbers old new → (n : ℕ) → old n ≡ true → new n ≡ true
noted-kept [] old new all n was = all n ∙ was
noted-kept (m ∷ ms) old new (next, one, all) n was = noted-kept ms next new all n (still m old next one n was)

noted-has : (numbers : List ℕ) (old new : ℕ → Bool) → NotesAll numbers old new → (n : ℕ) → Contains numbers n → new n ≡ true
noted-has [] old new all n there = absurd (Contains-none n there)
noted-has (m ∷ ms) old new (next, one, all) n there = ⊎_elim (λ same. noted-kept ms next new all n (ap next (sym same) ∙ one.noted))
    (noted-has ms next new all n) (Contains-cases m ms n there)

noted-fresh : (numbers : List ℕ) (old new : ℕ → Bool) → NotesAll numbers old new → (n : ℕ) → Contains numbers n → old n ≡ false
noted-fresh [] old new all n there = absurd (Contains-none n there)
noted-fresh (m ∷ ms) old new (next, one, all) n there = ⊎_elim (λ same. ap old (sym same) ∙ one.free)
    (λ more. let free = noted-fresh ms next new all n more in
    sym (one.others n (λ same. true≢false (sym one.noted ∙ ap next (sym same) ∙ free))) ∙ free)
    (Contains-cases m ms n there)

noted-only : (numbers : List ℕ) (old new : ℕ → Bool) → NotesAll numbers old new → (n : ℕ) → new n ≡ true → (old n ≡ true) ⊎ Contains numbers n
noted-only [] old new all n is = inl (sym (all n) ∙ is)
noted-only (m ∷ ms) old new (next, one, all) n is = ⊎_elim
    (λ before. ⊎_elim inl (λ same. inr (0, omega arith, sym same)) (only-one m old next one n before))
    (λ there. inr (suc there.0, omega (arith, there.1), there.2)) (noted-only ms next new all n is)

noted-two : (older : GivenKey) (newer : Option GivenKey) (old new : ℕ → Bool)
    → NotesAll (map (λ k. k.number) (key_given older ∷ option_to_list (option_map key_given newer))) old new
    → IfSome newer (λ newer. (key_given older).number ≢ (key_given newer).number)
noted-two older None old new all = tt
noted-two older (Some newer) old new (next, one, others) = λ same. true≢false (sym one.noted ∙ ap next same ∙ others.1.free)

-- ---- one customer after another

abbrev own : Wanted → List ℕ
own w = numbers_in (enrolment_with w.terms)

pub record Judged (taken : List Wanted) (terms : Address → Option Terms) (numbers : ℕ → Bool) : Type 0 where
  pub among : (q : Address) → option_map enrolment_with (terms q) ≡ enrolment_among taken q
  pub apart : AreApart taken
  pub listed : (v : Wanted) → Contains taken v → IsSome (terms v.address)
  pub noted : (v : Wanted) (n : ℕ) → Contains taken v → HasNumber v.terms n → numbers n ≡ true
  pub by_number : (n : ℕ) → numbers n ≡ true → (v : Wanted) × Contains taken v × HasNumber v.terms n

pub judged-none : (terms : Address → Option Terms) (numbers : ℕ → Bool) → ((q : Address) → terms q ≡ None) → ((n : ℕ) → numbers n ≡ false)
    → Judged [] terms numbers
judged-none terms numbers none nothing = record {
  among = λ q. ap (option_map enrolment_with) (none q);
  apart = record {
    addresses = λ i j d before inside. absurd (omega (arith, inside));
    numbers = λ i j d before inside. absurd (omega (arith, inside));
    two = All-nil (λ w. AreTwo w.terms);
  };
  listed = λ v there. absurd (Contains-none v there);
  noted = λ v n there has. absurd (Contains-none v there);
  by_number = λ n is. absurd (true≢false (sym is ∙ nothing n));
}

-- what customers have at an address, with one customer more
among-more : (taken : List Wanted) (w : Wanted) (q : Address)
    → enrolment_among (taken ++ w ∷ []) q ≡ option_or (enrolment_among taken q) (if address_eq q w.address then Some (enrolment_with w.terms) else None)
among-more taken w q = ap (option_map (λ w. enrolment_with w.terms)) (find-append (λ w. address_eq q w.address) taken (w ∷ []))
    ∙ by-found (find (λ w. address_eq q w.address) taken) (address_eq q w.address)
  where
    by-found : (o : Option Wanted) (b : Bool) → option_map (λ w. enrolment_with w.terms) (option_or o (if b then Some w else None))
        ≡ option_or (option_map (λ w. enrolment_with w.terms) o) (if b then Some (enrolment_with w.terms) else None)
    by-found o b = grind arith

or-none : (o : Option Enrolment) → option_or o None ≡ o
or-none o = grind arith

pub judged-more : (taken : List Wanted) (w : Wanted) (old new : Address → Option Terms) (numbers noted : ℕ → Bool) → Judged taken old numbers
    → Notes w.address w.terms old new numbers noted → Judged (taken ++ w ∷ []) new noted
judged-more taken w old new numbers now judged notes =
    record { among = among; apart = apart; listed = listed; noted = noted; by_number = by-noted }
  where
    are-two : AreTwo w.terms
    are-two = noted-two w.terms.older w.terms.newer numbers now notes.all

    among-here : (q : Address) → q ≡ w.address → option_map enrolment_with (new q) ≡ enrolment_among (taken ++ w ∷ []) q
    among-here q same =
        let none : None ≡ enrolment_among taken q = ap (option_map enrolment_with) (sym notes.free ∙ ap old (sym same)) ∙ judged.among q in
        let here : address_eq q w.address ≡ true = subst (λ a. address_eq q a ≡ true) same (address_eq_equiv.refl q) in
        ap (option_map enrolment_with) (ap new same ∙ notes.here)
        ∙ sym (among-more taken w q ∙ ap (λ o. option_or o (if address_eq q w.address then Some (enrolment_with w.terms) else None)) (sym none)
        ∙ ap (λ (b : Bool). if b then Some (enrolment_with w.terms) else None) here)

    among-there : (q : Address) → q ≢ w.address → option_map enrolment_with (new q) ≡ enrolment_among (taken ++ w ∷ []) q
    among-there q ne =
        ap (option_map enrolment_with) (notes.others q ne) ∙ judged.among q ∙ sym (among-more taken w q
        ∙ ap (λ (b : Bool). option_or (enrolment_among taken q) (if b then Some (enrolment_with w.terms) else None)) (other-address q w.address ne)
        ∙ or-none (enrolment_among taken q))

    among : (q : Address) → option_map enrolment_with (new q) ≡ enrolment_among (taken ++ w ∷ []) q
    among q = ⊎_elim (among-here q) (among-there q) (same_or_other_address q w.address)

    apart : AreApart (taken ++ w ∷ [])
    apart = record {
      addresses = all_pairs_push (λ one other. one.address ≢ other.address) taken w judged.apart.addresses
          (λ k d inside same. let there = judged.listed (get_or taken k d) (Contains-get_or taken k d inside) in
          true≢false (sym there ∙ ap (λ q. is_some (old q)) same ∙ ap is_some notes.free));
      numbers = all_pairs_push (λ one other. (n : ℕ) → HasNumber one.terms n → HasNumber other.terms n → ⊥) taken w judged.apart.numbers
          (λ k d inside n has has_too.
          true≢false (sym (judged.noted (get_or taken k d) n (Contains-get_or taken k d inside) has) ∙ noted-fresh (own w) numbers now notes.all n has_too));
      two = All-push (λ w. AreTwo w.terms) taken w judged.apart.two are-two;
    }

    still-there : (q : Address) → IsSome (old q) → IsSome (new q)
    still-there q was = ⊎_elim (λ same. ap is_some (ap new same ∙ notes.here)) (λ ne. ap is_some (notes.others q ne) ∙ was) (same_or_other_address q w.address)

    listed : (v : Wanted) → Contains (taken ++ w ∷ []) v → IsSome (new v.address)
    listed v there = ⊎_elim (λ before. still-there v.address (judged.listed v before))
        (λ same. subst (λ v. IsSome (new v.address)) same (ap is_some notes.here)) (Contains-push_cases taken w v there)

    noted : (v : Wanted) (n : ℕ) → Contains (taken ++ w ∷ []) v → HasNumber v.terms n → now n ≡ true
    noted v n there has = ⊎_elim (λ before. noted-kept (own w) numbers now notes.all n (judged.noted v n before has))
        (λ same. noted-has (own w) numbers now notes.all n (subst (λ v. HasNumber v.terms n) (sym same) has)) (Contains-push_cases taken w v there)

    by-noted : (n : ℕ) → now n ≡ true → (v : Wanted) × Contains (taken ++ w ∷ []) v × HasNumber v.terms n
    by-noted n is = ⊎_elim
        (λ was. let before = judged.by_number n was in (before.0, Contains-append_left taken (w ∷ []) before.0 before.1, before.2))
        (λ has. (w, Contains-push taken w, has))
        (noted-only (own w) numbers now notes.all n is)

-- what holds of a pair holds of two members that differ, in whatever order they stand
of-both : (R : Wanted → Wanted → Type 0) (customers : List Wanted) (v w : Wanted) → AllPairs R customers → ((x y : Wanted) → R x y → R y x)
    → Contains customers v → Contains customers w → R v w ⊎ (v ≡ w)
of-both R customers v w all turned (i, inside, is) (j, within, at) = ⊎_elim
    (λ before. inl (ordered i j v w before within is at))
    (λ behind. ⊎_elim (λ before. inl (turned w v (ordered j i w v before inside at is))) (λ past. inr (same (omega (arith, behind, past)))) (cases_lt j i))
    (cases_lt i j)
  where
    ordered : (i j : ℕ) (v w : Wanted) → i < j → j < length customers → get_or customers i v ≡ v → get_or customers j w ≡ w → R v w
    ordered i j v w before within is at =
        let found = get_or_default customers i w v (omega (arith, before, within)) ∙ is in
        subst (R v) at (subst (λ u. R u (get_or customers j w)) found (all i j w before within))

    same : i ≡ j → v ≡ w
    same e = sym is ∙ get_or_default customers i v w inside ∙ ap (λ i. get_or customers i w) e ∙ at

-- an enrolment that customers have at an address, with a number, is that of one of them
one-among : (customers : List Wanted) (q : Address) (n : ℕ) → Holds (enrolment_among customers q) n
    → (v : Wanted) × Contains customers v × (q ≡ v.address) × HasNumber v.terms n
one-among customers q n = by-found (find (λ w. address_eq q w.address) customers) refl
  where
    by-found : (o : Option Wanted) → find (λ w. address_eq q w.address) customers ≡ o → Holds (option_map (λ w. enrolment_with w.terms) o) n
        → (v : Wanted) × Contains customers v × (q ≡ v.address) × HasNumber v.terms n
    by-found None is has = absurd (Contains-none n has)
    by-found (Some v) is has = let there = found customers q v (Contains customers) (All-contains_itself customers) is in (v, there.0, there.1, has)

-- ---- customers that are apart

-- one of them has at its address what it is to have
pub has-own : (customers : List Wanted) (w : Wanted) → AreApart customers → Contains customers w → enrolment_among customers w.address ≡ Some (enrolment_with w.terms)
has-own customers w apart there = by-found (find (λ v. address_eq w.address v.address) customers) refl
  where
    by-found : (o : Option Wanted) → find (λ v. address_eq w.address v.address) customers ≡ o → enrolment_among customers w.address ≡ Some (enrolment_with w.terms)
    by-found None is = absurd (none-found customers w.address is (Contains-map (λ w. w.address) customers w there))
    by-found (Some v) is =
        let at = found customers w.address v (Contains customers) (All-contains_itself customers) is in
        ap (option_map (λ w. enrolment_with w.terms)) is ∙ ⊎_elim (λ ne. absurd (ne (sym at.1))) (ap (λ w. Some (enrolment_with w.terms)))
        (of-both (λ one other. one.address ≢ other.address) customers v w apart.addresses (λ x y ne same. ne (sym same)) at.0 there)

-- where no address has what is not wanted of it, others do not hold a number of one
pub others-lack : (customers : List Wanted) (w : Wanted) (r : Registry) → AreApart customers → Contains customers w
    → ((q : Address) → OnlyWanted (terms_at r q) (enrolment_among customers q)) → (other : Address) (n : ℕ) → other ≢ w.address
    → HasNumber w.terms n → Holds (terms_at r other) n → ⊥
others-lack customers w r apart there only other n ne has held =
    let v = one-among customers other n (only-holds (terms_at r other) (enrolment_among customers other) n (only other) held) in
    ⊎_elim (λ none. none n v.3 has) (λ same. ne (v.2 ∙ ap (λ w. w.address) same))
    (of-both (λ one other. (n : ℕ) → HasNumber one.terms n → HasNumber other.terms n → ⊥) customers v.0 w apart.numbers
    (λ x y none n has has_too. none n has_too has) v.1 there)

module _ (customers : List Wanted) (i : ℕ) (w : Wanted) (inside : i < length customers) (is : w ≡ get_or customers i w) where
  -- a pair with one before it
  earlier : (R : Wanted → Wanted → Type 0) → AllPairs R customers → (v : Wanted) → Contains (take i customers) v → R v w
  earlier R all v there =
      let before : there.0 < i = omega (arith, there.1, length-take i customers, inside) in
      let found : get_or customers there.0 w ≡ v =
      get_or_default customers there.0 w v (omega (arith, before, inside)) ∙ sym (get_or-take i customers there.0 v before) ∙ there.2 in
      subst (λ u. R u w) found (subst (R (get_or customers there.0 w)) (sym is) (all there.0 i w before inside))

  module _ (terms : Address → Option Terms) (numbers : ℕ → Bool) (judged : Judged (take i customers) terms numbers) (apart : AreApart customers) where
    pub address-free : terms w.address ≡ None
    address-free = by-terms (terms w.address) refl
      where
        by-terms : (o : Option Terms) → terms w.address ≡ o → terms w.address ≡ None
        by-terms None none = none
        by-terms (Some t) some =
            let has : Holds (enrolment_among (take i customers) w.address) (key_given t.older).number =
            subst (λ o. Holds o (key_given t.older).number) (sym (ap (option_map enrolment_with) some) ∙ judged.among w.address) (0, omega arith, refl) in
            let before = one-among (take i customers) w.address (key_given t.older).number has in
            absurd (earlier (λ one other. one.address ≢ other.address) apart.addresses before.0 before.1 (sym before.2))

    pub numbers-free : (n : ℕ) → HasNumber w.terms n → numbers n ≡ false
    numbers-free n has = false_from_ne_true (numbers n) (λ noted.
        let before = judged.by_number n noted in
        earlier (λ one other. (n : ℕ) → HasNumber one.terms n → HasNumber other.terms n → ⊥) apart.numbers before.0 before.1 n before.2 has)

    pub two-numbers : AreTwo w.terms
    two-numbers = subst (λ (v : Wanted). AreTwo v.terms) (sym is) (apart.two i w inside)
