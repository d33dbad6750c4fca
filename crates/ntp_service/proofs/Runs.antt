-- A list of events, one after another.
use Rattle.std.proofs.Common.{◌≡◌, Bool, not, List, [], ◌∷◌, ◌++◌, map, zip, cond, length, refl, sym, ap, ap₂, ◌∙◌, subst, append_assoc, append-nil, arith, rules}
use Rattle.std.specs.Prelude.{◌&&◌, if◌then◌else◌}
use Rattle.std.proofs.{lemmas.List.map-append, lemmas.List.Elements.filter-append}
use Rattle.ntp_service.specs.{declared.address.Address.Address, Registry.Registry, declared.event.Event.Event}
use Rattle.ntp_service.specs.{declared.outcome.Outcome.Outcome, Events.names, Events.own}
use Rattle.ntp_service.proofs.AddressLaws.{address_eq_equiv, same_or_other_address}
use Rattle.ntp_reply.specs.Life.{Life}
use Rattle.ntp_service.specs.Model.{answer_to, after, life_after, life_of, FollowsModel}
use Rattle.ntp_service.specs.Headline.{StandsFor, HasCause, TellsOne, Tells, is_struck, not_struck, happened_to}
use Rattle.ntp_service.proofs.Histories.{events_of, own-append, life_after-append, other-address}

module _ {A : Type 0} where
  -- ---- what happened, and then more
  kept-append : (xs ys : List (Event A × Outcome)) → not_struck (xs ++ ys) ≡ not_struck xs ++ not_struck ys
  kept-append xs ys = grind (arith, events_of, filter-append, map-append)

  -- of the events that are kept, an address's own are those that happened to it
  own-kept : (a : Address) (xs : List (Event A × Outcome)) → own a (not_struck xs) ≡ events_of (happened_to a xs)
  own-kept a [] = refl
  own-kept a (x ∷ xs) = grind (arith, own-kept a xs)

  -- the life that an address has behind what happened
  pub life-behind : (a : Address) (history : List (Event A)) (xs : List (Event A × Outcome))
      → life_of (own a (history ++ not_struck xs)) ≡ life_after (life_of (own a history)) (events_of (happened_to a xs))
  life-behind a history xs = grind (arith, own-append, own-kept, life_after-append, events_of)

  FollowsModel-append : (life : Life) (xs ys : List (Event A × Outcome)) → FollowsModel life xs
      → FollowsModel (life_after life (events_of xs)) ys → FollowsModel life (xs ++ ys)
  FollowsModel-append life [] ys first others = others
  FollowsModel-append life (x ∷ xs) ys first others =
      let here : x.1 ≡ answer_to life x.0 = cc in
      let rest : FollowsModel (after life x.0) xs = cc in
      ap₂ (λ o os. o ∷ os) here (FollowsModel-append (after life x.0) xs ys rest others)

  -- events and outcomes, and one more of each
  pub zip-push : (events : List (Event A)) (outcomes : List Outcome) (e : Event A) (o : Outcome) → length outcomes ≡ length events
      → zip (events ++ e ∷ []) (outcomes ++ o ∷ []) ≡ zip events outcomes ++ (e, o) ∷ []
  zip-push [] [] e o each = refl
  zip-push [] (p ∷ outcomes) e o each = absurd (omega arith)
  zip-push (x ∷ events) [] e o each = absurd (omega arith)
  zip-push (x ∷ events) (p ∷ outcomes) e o each = ap (λ l. (x, p) ∷ l) (zip-push events outcomes e o (omega arith))

  -- ---- each command that is struck out has its cause, after those events before it that are not
  abbrev pub AreCaused : List (Event A) → List (Event A × Outcome) → Type 0
  AreCaused history happened = (before behind : List (Event A × Outcome)) (e : Event A) (o : Outcome)
      → happened ≡ before ++ (e, o) ∷ behind → HasCause (history ++ not_struck before) e o

  -- nothing happened
  nothing-there : (before behind : List (Event A × Outcome)) (p : Event A × Outcome) → [] ≡ before ++ p ∷ behind → ⊥
  nothing-there [] behind p is = cc
  nothing-there (q ∷ before) behind p is = cc

  -- the first event joins the history
  pub regrouped : (history : List (Event A)) (p : Event A × Outcome) (rest : List (Event A × Outcome))
      → history ++ not_struck (p ∷ rest) ≡ (history ++ not_struck (p ∷ [])) ++ not_struck rest
  regrouped history p rest = ap (λ l. history ++ l) (kept-append (p ∷ []) rest) ∙ sym (append_assoc history (not_struck (p ∷ [])) (not_struck rest))

  AreCaused-one : (history : List (Event A)) (e : Event A) (o : Outcome) → HasCause history e o → AreCaused history ((e, o) ∷ [])
  AreCaused-one history e o has [] behind f p is =
      let one : Event A × Outcome = (e, o) in
      let same : one ≡ (f, p) = cc in
      subst (λ q. HasCause (history ++ []) q.0 q.1) same (subst (λ h. HasCause h e o) (sym (append-nil history)) has)
  AreCaused-one history e o has (q ∷ before) behind f p is =
      let none : [] ≡ before ++ (f, p) ∷ behind = cc in absurd (nothing-there before behind (f, p) none)

  AreCaused-append : (history : List (Event A)) (xs ys : List (Event A × Outcome)) → AreCaused history xs
      → AreCaused (history ++ not_struck xs) ys → AreCaused history (xs ++ ys)
  AreCaused-append history [] ys first others before behind e o is =
      subst (λ h. AreCaused h ys) (append-nil history) others before behind e o is
  AreCaused-append history (x ∷ xs) ys first others [] behind e o is =
      let same : x ≡ (e, o) = cc in first [] xs e o (ap (λ p. p ∷ xs) same)
  AreCaused-append history (x ∷ xs) ys first others (q ∷ before) behind e o is =
      let same : x ≡ q = cc in
      let rest : xs ++ ys ≡ before ++ (e, o) ∷ behind = cc in
      let later = history ++ not_struck (x ∷ []) in
      let ours : AreCaused later xs = λ b d f p there.
      subst (λ h. HasCause h f p) (regrouped history x b) (first (x ∷ b) d f p (ap (λ l. x ∷ l) there)) in
      let theirs : AreCaused (later ++ not_struck xs) ys = subst (λ h. AreCaused h ys) (regrouped history x xs) others in
      subst (λ h. HasCause h e o) (sym (regrouped history x before) ∙ ap (λ y. history ++ not_struck (y ∷ before)) same)
      (AreCaused-append later xs ys ours theirs before behind e o rest)

  -- ---- one event alone
  module _ (history : List (Event A)) (e : Event A) (o : Outcome) (s : Registry) (t : TellsOne history e o s) where
    one-stands : StandsFor s (history ++ not_struck ((e, o) ∷ []))
    one-stands = chosen (is_struck o) t.stands
      where
        chosen : (b : Bool) → StandsFor s (if b then history else history ++ e ∷ [])
            → StandsFor s (history ++ map (λ (p : Event A × Outcome). p.0) (cond (not b) ((e, o) ∷ []) []))
        chosen b e = grind (arith, append-nil)

    one-told : (a : Address) → FollowsModel (life_of (own a history)) (happened_to a ((e, o) ∷ []))
    one-told a = search (rules, address_eq_equiv, other-address, same_or_other_address)

  -- ---- what a service tells
  pub Tells-nil : (history : List (Event A)) (s : Registry) → StandsFor s history → Tells history [] s
  Tells-nil history s stands = grind (arith, nothing-there, append-nil)

  pub Tells-one : (history : List (Event A)) (e : Event A) (o : Outcome) (s : Registry) → TellsOne history e o s
      → Tells history ((e, o) ∷ []) s
  Tells-one history e o s one = search (rules, one-told, AreCaused-one, one-stands)

  pub Tells-append : (history : List (Event A)) (xs ys : List (Event A × Outcome)) (r s : Registry) → Tells history xs r
      → (StandsFor r (history ++ not_struck xs) → Tells (history ++ not_struck xs) ys s) → Tells history (xs ++ ys) s
  Tells-append history xs ys r s t more =
      let u = more t.stands in
      record {
        told = λ a.
            let life = life_of (own a history) in
            let on = life-behind a history xs in
            subst (FollowsModel life) (sym (filter-append (λ p. not (is_struck p.1) && names a p.0) xs ys))
            (FollowsModel-append life (happened_to a xs) (happened_to a ys) (t.told a)
            (subst (λ l. FollowsModel l (happened_to a ys)) on (u.told a)));
        causes = AreCaused-append history xs ys t.causes u.causes;
        stands = subst (λ l. StandsFor s l) (append_assoc history (not_struck xs) (not_struck ys) ∙ ap (λ l. history ++ l) (sym (kept-append xs ys))) u.stands;
      }

  -- one event more
  pub Tells-push : (history : List (Event A)) (happened : List (Event A × Outcome)) (r s : Registry) (e : Event A) (o : Outcome)
      → Tells history happened r → (StandsFor r (history ++ not_struck happened) → TellsOne (history ++ not_struck happened) e o s)
      → Tells history (happened ++ (e, o) ∷ []) s
  Tells-push history happened r s e o t step = search (rules, Tells-append, Tells-one)

  -- two services that were told the same of an address tell it the same
  pub alike : (a : Address) (h h' : List (Event A)) (xs ys : List (Event A × Outcome)) (r s : Registry) → Tells h xs r → Tells h' ys s
      → own a h ≡ own a h' → events_of (happened_to a xs) ≡ events_of (happened_to a ys)
      → map (λ p. p.1) (happened_to a xs) ≡ map (λ p. p.1) (happened_to a ys)
  alike a h h' xs ys r s e f g p = grind (arith, events_of)
