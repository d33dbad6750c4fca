-- Saved exchanges stay saved: at a push, where one is spent, and where one departs.
use Rattle.std.proofs.Common.{◌≡◌, ◌≢◌, ℕ, ◌+◌, ◌-◌, ◌^◌, ◌<◌, inl, inr, Bool, true, cond, List, [], ◌∷◌, ◌++◌, length, take, drop, map, get_or, refl, sym, ap, subst, ◌∙◌, arith, rules}
use Rattle.std.specs.Prelude.{Contains, All, IsTrue, find, option_and_then, Option, Some, None, not, ◌&&◌}
use Rattle.std.specs.List.{AllPairs}
use Rattle.std.proofs.lemmas.Bool.{cases_Bool, cases_order, and_from, and_right, and_parts, not_from_false, not-true, both_ways, eqb-true, cond-true, cond-false}
use Rattle.std.proofs.lemmas.List.{length-map, length-drop, get_or-drop, get_or-map, get_or_default, map_push, drop-map, take-append-drop}
use Rattle.std.proofs.lemmas.List.Elements.{All-contains, All-drop, All-map, All-push, All-weaker, All-nil, Contains-get_or, Contains-append_left, Contains-append_right, Contains-push_cases}
use Rattle.std.proofs.lemmas.List.Quantifiers.{all_pairs_push}
use Rattle.ntp_packet.specs.{declared.stamp.Stamp.Stamp, declared.moment.Moment.Moment}
use Rattle.ntp_packet.specs.Fresh.{is_free, fresh, IsFresh}
use Rattle.ntp_packet.proofs.PublicLaws.{free-nonzero, free-apart, free-from_apart, IsFresh-fresh}
use Rattle.ntp_customer.specs.declared.slot.Slot.{Slot}
use Rattle.ntp_customer.specs.Exchanges.{most_slots, recent, new_exchange, receives, transmits, all_stamps, AreSaved, is_received_at, is_unused_at, exchange_at, unused_at, with_unused, spent, with_departure}
use Rattle.ntp_customer.proofs.Changes.{find-member, length-with_unused, receives-with_unused}
use Rattle.std.proofs.lemmas.List.Folds.{find-append}

-- exchanges as they are saved, however many
record AreApart (xs : List Slot) : Type 0 where
  pub distinct : AllPairs ◌≢◌ (receives xs)
  pub received : All (λ x. x.receive.0 ≢ 0) xs
  pub apart : All (λ x. IsTrue (is_free (receives xs) x.transmit)) xs

-- what f gives of a member is among what it gives of all
pub Contains-map : {X Y : Type 0} (f : X → Y) (xs : List X) (x : X) → Contains xs x → Contains (map f xs) (f x)
Contains-map f xs x member = grind (arith, length-map, get_or-map)

-- a member of what is left is a member
Contains-drop : {X : Type 0} (n : ℕ) (xs : List X) (x : X) → Contains (drop n xs) x → Contains xs x
Contains-drop n xs x member = subst (λ ys. Contains ys x) (take-append-drop n xs) (Contains-append_right (take n xs) (drop n xs) x member)

-- what is free of some is free of some of them
free-drop : (n : ℕ) (avoid : List Stamp) (s : Stamp) → IsTrue (is_free avoid s) → IsTrue (is_free (drop n avoid) s)
free-drop n avoid s free = search (rules, free-from_apart, free-nonzero, free-apart, Contains-drop)

-- what is free of some and is not one more is free of all these
free-push : (avoid : List Stamp) (a s : Stamp) → IsTrue (is_free avoid s) → a ≢ s → IsTrue (is_free (avoid ++ a ∷ []) s)
free-push avoid a s free other =
    free-from_apart (avoid ++ a ∷ []) s (free-nonzero avoid s free)
    (λ b member. elim (Contains-push_cases avoid a b member) [
      | inl before ↦ free-apart avoid s b free before
      | inr last ↦ λ same. other (last ∙ same)
    ])

-- none of them is all apart
pub AreSaved-nil : AreSaved []
AreSaved-nil = record {
  few = omega arith;
  distinct = λ i j d before below. absurd (omega arith);
  received = All-nil (λ x. x.receive.0 ≢ 0);
  apart = All-nil (λ x. IsTrue (is_free [] x.transmit));
}

-- what is left of exchanges that are apart is apart
AreApart-drop : (n : ℕ) (xs : List Slot) → AreApart xs → AreApart (drop n xs)
AreApart-drop n xs are =
    let left : receives (drop n xs) ≡ drop n (receives xs) = sym (drop-map (λ x. x.receive) n xs) in
    record {
      distinct = λ i j d before below same.
          let inside : n + j < length (receives xs) = omega (arith, below, ap length left, length-drop n (receives xs)) in
          are.distinct (n + i) (n + j) d (omega arith) inside
          (sym (ap (λ ys. get_or ys i d) left ∙ get_or-drop n (receives xs) i d) ∙ same ∙ ap (λ ys. get_or ys j d) left
          ∙ get_or-drop n (receives xs) j d);
      received = All-drop (λ x. x.receive.0 ≢ 0) n xs are.received;
      apart = rw left (All-weaker (λ x. IsTrue (is_free (receives xs) x.transmit)) (λ x. IsTrue (is_free (drop n (receives xs)) x.transmit))
          (λ x free. free-drop n (receives xs) x.transmit free) (drop n xs)
          (All-drop (λ x. IsTrue (is_free (receives xs) x.transmit)) n xs are.apart));
    }

-- with a new exchange behind them, whose stamps are free
AreApart-push : (xs : List Slot) (receive transmit : Stamp) → AreApart xs → IsTrue (is_free (all_stamps xs) receive)
    → IsTrue (is_free (receives xs ++ receive ∷ []) transmit) → AreApart (xs ++ new_exchange receive transmit ∷ [])
AreApart-push xs receive transmit are receive_free transmit_free =
    let x : Slot = new_exchange receive transmit in
    let more : receives (xs ++ x ∷ []) ≡ receives xs ++ receive ∷ [] = map_push (λ x. x.receive) xs x in
    record {
      distinct = rw more (all_pairs_push ◌≢◌ (receives xs) receive are.distinct (λ k d below.
          free-apart (all_stamps xs) receive (get_or (receives xs) k d) receive_free
          (Contains-append_left (receives xs) (transmits xs) _ (Contains-get_or (receives xs) k d below))));
      received = All-push (λ x. x.receive.0 ≢ 0) xs x are.received (free-nonzero (all_stamps xs) receive receive_free);
      apart = rw more (All-push (λ x. IsTrue (is_free (receives xs ++ receive ∷ []) x.transmit)) xs x
          (λ k d below. free-push (receives xs) receive (get_or xs k d).transmit (are.apart k d below) (λ same.
          free-apart (all_stamps xs) receive (get_or xs k d).transmit receive_free
          (Contains-append_right (receives xs) (transmits xs) _
          (Contains-map (λ x. x.transmit) xs (get_or xs k d) (Contains-get_or xs k d below))) (sym same)))
          transmit_free);
    }

-- at a push the recent ones are saved
pub AreSaved-push : (xs : List Slot) (receive transmit : Stamp) → AreSaved xs → IsTrue (is_free (all_stamps xs) receive)
    → IsTrue (is_free (receives xs ++ receive ∷ []) transmit) → AreSaved (recent (xs ++ new_exchange receive transmit ∷ []))
unfolding recent
AreSaved-push xs receive transmit are receive_free transmit_free =
    let all : List Slot = xs ++ new_exchange receive transmit ∷ [] in
    let were : AreApart xs = record { distinct = are.distinct; received = are.received; apart = are.apart } in
    let left : AreApart (drop (length all - most_slots) all) =
    AreApart-drop (length all - most_slots) all (AreApart-push xs receive transmit were receive_free transmit_free) in
    record {
      few = omega (arith, length-drop (length all - most_slots) all);
      distinct = left.distinct;
      received = left.received;
      apart = left.apart;
    }

-- where an exchange changes no receive stamp, and its transmit stamp to a free one or not
pub AreSaved-with_unused : (xs : List Slot) (receive : Stamp) (change : Slot → Slot) → AreSaved xs
    → ((x : Slot) → (change x).receive ≡ x.receive)
    → ((x : Slot) → IsTrue (is_free (receives xs) x.transmit) → IsTrue (is_free (receives xs) (change x).transmit))
    → AreSaved (with_unused xs receive change)
AreSaved-with_unused xs receive change are keeps frees =
    let same : receives (with_unused xs receive change) ≡ receives xs = receives-with_unused receive change xs keeps in
    record {
      few = omega (arith, length-with_unused receive change xs, are.few);
      distinct = rw same are.distinct;
      received = All-map (λ x. x.receive.0 ≢ 0) (λ x. cond (is_unused_at receive x) (change x) x) xs (λ k d below.
          elim (cases_Bool (is_unused_at receive (get_or xs k d))) [
            | inl here ↦ rw (here, keeps (get_or xs k d)) (are.received k d below)
            | inr past ↦ rw past (are.received k d below)
          ]);
      apart = rw same (All-map (λ x. IsTrue (is_free (receives xs) x.transmit)) (λ x. cond (is_unused_at receive x) (change x) x) xs
          (λ k d below.
          elim (cases_Bool (is_unused_at receive (get_or xs k d))) [
            | inl here ↦ rw here (frees (get_or xs k d) (are.apart k d below))
            | inr past ↦ rw past (are.apart k d below)
          ]));
    }

-- where one is spent
pub AreSaved-spent : (xs : List Slot) (receive : Stamp) → AreSaved xs → AreSaved (spent xs receive)
unfolding spent
AreSaved-spent xs receive are = AreSaved-with_unused xs receive (λ x. record x { used = true }) are (λ x. refl) (λ x free. free)

-- where one departs
pub AreSaved-departed : (xs : List Slot) (receive : Stamp) (m : Moment) → AreSaved xs → AreSaved (with_departure xs receive m)
unfolding with_departure
AreSaved-departed xs receive m are =
    let small : length (receives xs) < 2 ^ 63 = omega (arith, length-map xs (λ x. x.receive), are.few) in
    let is : IsFresh m.stamp (receives xs) (fresh m.stamp (receives xs)) = IsFresh-fresh m.stamp (receives xs) small in
    AreSaved-with_unused xs receive (λ x. record x { transmit = fresh m.stamp (receives xs) }) are (λ x. refl) (λ x free. is.free)

-- of exchanges that are saved, two with one receive stamp are the same
pub one-at_most : (xs : List Slot) → AreSaved xs → (x y : Slot) → Contains xs x → Contains xs y → x.receive ≡ y.receive → x ≡ y
one-at_most xs are x y there here same =
    let at_x : get_or (receives xs) there.0 x.receive ≡ x.receive = get_or-map (λ x. x.receive) xs there.0 x x.receive there.1
    ∙ ap (λ x. x.receive) there.2 in
    let at_y : get_or (receives xs) here.0 x.receive ≡ y.receive = get_or-map (λ x. x.receive) xs here.0 y x.receive here.1
    ∙ ap (λ x. x.receive) here.2 in
    elim (cases_order there.0 here.0) [
      | inl equal ↦ sym there.2 ∙ ap (λ k. get_or xs k x) equal ∙ get_or_default xs here.0 x y here.1 ∙ here.2
      | inr (inl before) ↦ absurd (are.distinct there.0 here.0 x.receive before (omega (arith, length-map xs (λ x. x.receive), here.1))
          (at_x ∙ same ∙ sym at_y))
      | inr (inr after) ↦ absurd (are.distinct here.0 there.0 x.receive after (omega (arith, length-map xs (λ x. x.receive), there.1))
          (at_y ∙ sym same ∙ sym at_x))
    ]

-- of exchanges that are saved, none has a stamp 0, and no transmit stamp is a receive stamp
pub stamps-apart : (xs : List Slot) → AreSaved xs → (x y : Slot) → Contains xs x → Contains xs y
    → (x.receive.0 ≢ 0) × (x.transmit.0 ≢ 0) × (x.transmit ≢ y.receive)
stamps-apart xs are x y there here =
    let free : IsTrue (is_free (receives xs) x.transmit) =
    All-contains (λ x. IsTrue (is_free (receives xs) x.transmit)) xs x are.apart there in (
      All-contains (λ x. x.receive.0 ≢ 0) xs x are.received there,
      free-nonzero (receives xs) x.transmit free,
      λ same. free-apart (receives xs) x.transmit y.receive free (Contains-map (λ x. x.receive) xs y here) (sym same),
    )

-- the first that passes one test is the first that passes both, if it does
find-both : {X : Type 0} (p q : X → Bool) (xs : List X) (x : X) → find p xs ≡ Some x → q x ≡ true → find (λ y. q y && p y) xs ≡ Some x
find-both p q [] x found also = cc
find-both p q (y ∷ xs) x found also =
    elim (cases_Bool (p y)) [
      | inl here ↦
          let at : Some y ≡ Some x = rw here at found in
          let same : y ≡ x = cc in
          let both : (q y && p y) ≡ true = and_from (q y) (p y) (subst (λ z. q z ≡ true) (sym same) also) here in
          rw both at
      | inr past ↦
          let later : find p xs ≡ Some x = rw past at found in
          rw (and_right (q y) (p y) past) (find-both p q xs x later also)
    ]

-- of those that pass no test, none passes both
find-neither : {X : Type 0} (p q : X → Bool) (xs : List X) → find p xs ≡ None → find (λ y. q y && p y) xs ≡ None
find-neither p q [] none = refl
find-neither p q (y ∷ xs) none =
    elim (cases_Bool (p y)) [
      | inl here ↦ let at : Some y ≡ None = rw here at none in cc
      | inr past ↦
          let later : find p xs ≡ None = rw past at none in
          rw (and_right (q y) (p y) past) (find-neither p q xs later)
    ]

-- an exchange that has the receive stamp has it
stamp-of_found : (xs : List Slot) (receive : Stamp) (x : Slot) → exchange_at xs receive ≡ Some x → Contains xs x × (x.receive ≡ receive)
stamp-of_found xs receive x found = grind (arith, find-member, eqb-true)

-- where that is used, no unused one has it
used-alone : (xs : List Slot) (receive : Stamp) (x : Slot) → AreSaved xs → exchange_at xs receive ≡ Some x → x.used ≡ true
    → (o : Option Slot) → unused_at xs receive ≡ o → o ≡ None
used-alone xs receive x are found used None none = refl
used-alone xs receive x are found used (Some y) other =
    let at = find-member (is_unused_at receive) xs y other in
    let parts = and_parts (not y.used) (is_received_at receive y) at.1 in
    let has = stamp-of_found xs receive x found in
    let too : y.receive ≡ receive = ap (λ n. record { 0 = n }) (eqb-true y.receive.0 receive.0 parts.1) in
    let same : x ≡ y = one-at_most xs are x y has.0 at.0 (has.1 ∙ sym too) in
    absurd (both_ways y.used (not-true y.used parts.0) (subst (λ z. z.used ≡ true) same used))

-- the unused exchange with a receive stamp is the one with it, unless that is used
unused-from : (xs : List Slot) (receive : Stamp) → AreSaved xs → (o : Option Slot) → exchange_at xs receive ≡ o
    → unused_at xs receive ≡ option_and_then (λ x. cond x.used None (Some x)) o
unused-from xs receive are None none = find-neither (is_received_at receive) (λ x. not x.used) xs none
unused-from xs receive are (Some x) found =
    elim (cases_Bool x.used) [
      | inl used ↦ used-alone xs receive x are found used (unused_at xs receive) refl ∙ sym (cond-true x.used None (Some x) used)
      | inr unused ↦ find-both (is_received_at receive) (λ y. not y.used) xs x found (not_from_false x.used unused)
          ∙ sym (cond-false x.used None (Some x) unused)
    ]

pub unused_at-from_exchange_at : (xs : List Slot) (receive : Stamp) → AreSaved xs
    → unused_at xs receive ≡ option_and_then (λ x. cond x.used None (Some x)) (exchange_at xs receive)
unused_at-from_exchange_at xs receive are = unused-from xs receive are (exchange_at xs receive) refl

-- what stays saved at a push, and which of them is unused
pub ruleset saved = (AreSaved-push, unused_at-from_exchange_at, find-append)
