-- Two services: the second is told some of the events of the first.
use Rattle.std.proofs.Common.{◌≡◌, ◌&&◌, Bool, true, false, not, List, [], ◌∷◌, ◌++◌, map, filter, All, refl, sym, ap, ap₂, ◌∙◌, subst, append-nil, ⊎_elim, arith}
use Rattle.std.specs.Prelude.{if◌then◌else◌}
use Rattle.std.proofs.lemmas.Bool.{cases_Bool}
use Rattle.std.proofs.lemmas.List.Elements.{filter-append, All-head, All-tail}
use Rattle.ntp_service.specs.{declared.address.Address.Address, Registry.Registry, declared.event.Event.Event}
use Rattle.ntp_service.specs.{declared.outcome.Outcome.Outcome, Events.address_of, Events.names, Events.own, Model.answer_to}
use Rattle.ntp_service.specs.{Model.life_of, Model.FollowsModel, Headline.HasCause, Headline.Tells, Headline.is_struck}
use Rattle.ntp_service.specs.Headline.{not_struck, happened_to}
use Rattle.ntp_service.proofs.{AddressLaws.address_eq_equiv, Histories.events_of, Stretches.follows-behind}
use Rattle.ntp_service.proofs.Runs.{AreCaused, regrouped, life-behind}

module _ {A : Type 0} where
  -- ---- what a service tells, whatever it stands for afterwards
  record AreTold (history : List (Event A)) (happened : List (Event A × Outcome)) : Type 0 where
    pub told : (a : Address) → FollowsModel (life_of (own a history)) (happened_to a happened)
    pub causes : AreCaused history happened

  pub record IsTold (history : List (Event A)) (e : Event A) (o : Outcome) : Type 0 where
    pub as_model : is_struck o ≡ false → o ≡ answer_to (life_of (own (address_of e) history)) e
    pub cause : HasCause history e o

  -- the first event is told, and those behind it are
  told-first : (history : List (Event A)) (e : Event A) (o : Outcome) (rest : List (Event A × Outcome)) → AreTold history ((e, o) ∷ rest)
      → IsTold history e o
  told-first history e o rest t =
      let others = happened_to (address_of e) rest in
      let life = life_of (own (address_of e) history) in
      let mine : is_struck o ≡ false → not (is_struck o) && names (address_of e) e ≡ true =
      λ plain. grind (arith, plain, address_eq_equiv.refl (address_of e)) in
      record {
        as_model = λ plain.
            let follows = subst (λ (b : Bool). FollowsModel life (if b then (e, o) ∷ others else others)) (mine plain) (t.told (address_of e)) in cc;
        cause = subst (λ h. HasCause h e o) (append-nil history) (t.causes [] rest e o refl);
      }

  told-behind : (history : List (Event A)) (p : Event A × Outcome) (rest : List (Event A × Outcome)) → AreTold history (p ∷ rest)
      → AreTold (history ++ not_struck (p ∷ [])) rest
  told-behind history p rest t = record {
    told = λ a.
        let life = life_of (own a history) in
        subst (λ l. FollowsModel l (happened_to a rest)) (sym (life-behind a history (p ∷ [])))
        (follows-behind life (happened_to a (p ∷ [])) (happened_to a rest)
        (subst (FollowsModel life) (filter-append (λ x. not (is_struck x.1) && names a x.0) (p ∷ []) rest) (t.told a)));
    causes = λ before behind f q is.
        subst (λ h. HasCause h f q) (regrouped history p before) (t.causes (p ∷ before) behind f q (ap (λ l. p ∷ l) is));
  }

  -- ---- two services, and a test of the events that come to the second: there the outcomes that come are those of the first, and here what
  -- does not come is not struck out
  module _ (comes : Event A → Bool) (Here There : Outcome → Type 0)
      (alike : (history : List (Event A)) (e : Event A) (o p : Outcome) → comes e ≡ true → IsTold history e o
      → IsTold (filter comes history) e p → Here o → There p → p ≡ o)
      (unstruck : (history : List (Event A)) (e : Event A) (o : Outcome) → comes e ≡ false → IsTold history e o → Here o
      → is_struck o ≡ false) where
    abbrev those : List (Event A × Outcome) → List (Event A × Outcome)
    those happened = filter (λ p. comes p.0) happened

    abbrev AreAlike : List (Event A × Outcome) → Type 0
    AreAlike happened = (history : List (Event A)) (there : List (Event A × Outcome)) → AreTold history happened
        → AreTold (filter comes history) there → All (λ p. Here p.1) happened → All (λ p. There p.1) there
        → events_of there ≡ filter comes (events_of happened) → there ≡ those happened

    alike-none : AreAlike []
    alike-none history [] told told_there here there same = refl
    alike-none history (q ∷ others) told told_there here there same = absurd cc

    -- an event that does not come
    alike-away : (e : Event A) (o : Outcome) (rest : List (Event A × Outcome)) → comes e ≡ false → AreAlike rest → AreAlike ((e, o) ∷ rest)
    alike-away e o rest away on history others told told_there here there same =
        let plain = unstruck history e o away (told-first history e o rest told) (All-head (λ p. Here p.1) (e, o) rest here) in
        let later : AreTold (history ++ e ∷ []) rest =
        subst (λ (b : Bool). AreTold (history ++ map (λ (p : Event A × Outcome). p.0) (if not b then (e, o) ∷ [] else [])) rest) plain
        (told-behind history (e, o) rest told) in
        let past : filter comes (history ++ e ∷ []) ≡ filter comes history =
        filter-append comes history (e ∷ []) ∙ ap (λ (b : Bool). filter comes history ++ (if b then e ∷ [] else [])) away
        ∙ append-nil (filter comes history) in
        let now : filter comes (e ∷ events_of rest) ≡ filter comes (events_of rest) = grind (arith, away) in
        let behind : those ((e, o) ∷ rest) ≡ those rest = grind (arith, away) in
        on (history ++ e ∷ []) others later (subst (λ h. AreTold h others) (sym past) told_there) (All-tail (λ p. Here p.1) (e, o) rest here)
        there (same ∙ now) ∙ sym behind

    -- one that comes, and is kept or not
    come-kept : (e : Event A) (o : Outcome) → comes e ≡ true → filter comes (not_struck ((e, o) ∷ [])) ≡ not_struck ((e, o) ∷ [])
    come-kept e o is = grind (arith, is)

    alike-come : (e : Event A) (o : Outcome) (rest : List (Event A × Outcome)) → comes e ≡ true → AreAlike rest → AreAlike ((e, o) ∷ rest)
    alike-come e o rest is on history there told told_there here all_there same =
        by_list there told_there all_there (same ∙ now)
      where
        now : filter comes (e ∷ events_of rest) ≡ e ∷ filter comes (events_of rest)
        now = grind (arith, is)

        by_list : (there : List (Event A × Outcome)) → AreTold (filter comes history) there → All (λ p. There p.1) there
            → events_of there ≡ e ∷ filter comes (events_of rest) → there ≡ those ((e, o) ∷ rest)
        by_list [] t all there_same = absurd cc
        by_list (q ∷ others) t all there_same =
            let past = filter comes history in
            let one : q.0 ≡ e = cc in
            let others_same : events_of others ≡ filter comes (events_of rest) = cc in
            let outcome_same : q.1 ≡ o =
            alike history e o q.1 is (told-first history e o rest told)
            (subst (λ f. IsTold past f q.1) one (told-first past q.0 q.1 others t)) (All-head (λ p. Here p.1) (e, o) rest here)
            (All-head (λ p. There p.1) q others all) in
            let first : q ≡ (e, o) = ap₂ (λ f x. (f, x)) one outcome_same in
            let later : filter comes (history ++ not_struck ((e, o) ∷ [])) ≡ past ++ not_struck (q ∷ []) =
            filter-append comes history (not_struck ((e, o) ∷ [])) ∙ ap (λ l. past ++ l) (come-kept e o is)
            ∙ ap (λ p. past ++ not_struck (p ∷ [])) (sym first) in
            let behind : those ((e, o) ∷ rest) ≡ (e, o) ∷ those rest = grind (arith, is) in
            ap₂ (λ p l. p ∷ l) first (on (history ++ not_struck ((e, o) ∷ [])) others (told-behind history (e, o) rest told)
            (subst (λ h. AreTold h others) (sym later) (told-behind past q others t)) (All-tail (λ p. Here p.1) (e, o) rest here)
            (All-tail (λ p. There p.1) q others all) others_same) ∙ sym behind

    all-alike : (happened : List (Event A × Outcome)) → AreAlike happened
    all-alike [] = alike-none
    all-alike ((e, o) ∷ rest) =
        ⊎_elim (λ is. alike-come e o rest is (all-alike rest)) (λ away. alike-away e o rest away (all-alike rest)) (cases_Bool (comes e))

    pub tell-alike : (history : List (Event A)) (happened there : List (Event A × Outcome)) (service service_there : Registry)
        → Tells history happened service → Tells (filter comes history) there service_there
        → All (λ p. Here p.1) happened → All (λ p. There p.1) there → events_of there ≡ filter comes (events_of happened)
        → there ≡ those happened
    tell-alike history happened there service service_there tells tells_there =
        all-alike happened history there (record { told = tells.told; causes = tells.causes })
        (record { told = tells_there.told; causes = tells_there.causes })
