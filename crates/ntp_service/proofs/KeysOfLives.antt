-- While an address is enrolled it has one key or two, told apart by their numbers, whatever events it had.
use Rattle.std.proofs.Common.{◌≡◌, ◌≢◌, ℕ, ◌+◌, ◌<◌, ◌==◌, false, not, List, [], ◌∷◌, ◌++◌, map, filter, find, length, Contains, AllPairs, Option, Some, None, IfSome, is_some, option_map, refl, sym, ◌∙◌, subst, true≢false, arith}
use Rattle.std.specs.Prelude.{if◌then◌else◌}
use Rattle.std.proofs.{lemmas.Bool.Decides.nat_tests, lemmas.List.map-append, lemmas.List.length-append}
use Rattle.std.proofs.{lemmas.List.Filters.length-filter_both, lemmas.List.Elements.Contains-get_or}
use Rattle.std.proofs.{lemmas.List.Kept.AllPairs-filter, lemmas.List.Quantifiers.all_pairs_push}
use Rattle.ntp_customer.specs.declared.numbered_key.NumberedKey.{NumberedKey}
use Rattle.ntp_customer.specs.Customer.{Enrolment, HasKeys, enrolment_of, with_terms, numbers_in, most_keys}
use Rattle.ntp_customer.proofs.PublicLaws.{with_key, without_key}
use Rattle.ntp_service.specs.{declared.refusal.Refusal.Refusal, declared.command.Command.Command, declared.event.Event.Event}
use Rattle.ntp_reply.specs.Life.{Life, enrolment_in}
use Rattle.ntp_service.specs.Commands.{rollover_refusal, retire_refusal, refusal_of, once_done}
use Rattle.ntp_service.specs.Model.{after, life_after, life_of}
use Rattle.ntp_service.proofs.{Lives.by_life, Holders.held-number, Bounds.same-enrolment}

-- ---- an enrolment that is new
HasKeys-one : (key : NumberedKey) (budget : ℕ) → HasKeys (enrolment_of key budget)
HasKeys-one key budget = record { some = omega arith; few = omega arith; apart = λ i j d lt within. absurd (omega (arith, lt, within)) }

-- ---- one key more
-- a rollover that is not refused finds room, and its number is not held
rollover-plain : (e : Enrolment) (n : ℕ) → rollover_refusal e n ≡ None
    → (length e.keys < most_keys) × (is_some (find (λ k. k.number == n) e.keys) ≡ false)
rollover-plain e n plain = (grind (arith, nat_tests), grind (arith, nat_tests))

HasKeys-with_key : (e : Enrolment) (key : NumberedKey) → rollover_refusal e key.number ≡ None → HasKeys e → HasKeys (with_key e key)
HasKeys-with_key e key plain has = record {
  some = omega (arith, long);
  few = omega (arith, long, found.0);
  apart = subst (AllPairs (λ one other. one ≢ other)) (sym (map-append (λ k. k.number) e.keys (key ∷ [])))
      (all_pairs_push (λ one other. one ≢ other) (numbers_in e) key.number has.apart
      (λ i d within same. let holds = subst (Contains (numbers_in e)) same (Contains-get_or (numbers_in e) i d within) in
      true≢false (sym (held-number e.keys key.number holds) ∙ found.1)));
}
  where
    found : (length e.keys < most_keys) × (is_some (find (λ k. k.number == key.number) e.keys) ≡ false)
    found = rollover-plain e key.number plain

    long : length (e.keys ++ key ∷ []) ≡ length e.keys + 1
    long = length-append e.keys (key ∷ [])

-- ---- one key less
-- a retirement that is not refused finds two keys
retire-plain : (e : Enrolment) (n : ℕ) → retire_refusal e n ≡ None → 1 < length e.keys
retire-plain e n plain = grind (arith, nat_tests)

-- the numbers of those keys that stay
numbers-filter : (keys : List NumberedKey) (n : ℕ)
    → map (λ k. k.number) (filter (λ k. not (k.number == n)) keys) ≡ filter (λ m. not (m == n)) (map (λ k. k.number) keys)
numbers-filter [] n = refl
numbers-filter (k ∷ keys) n = let rest = numbers-filter keys n in grind arith

-- of two keys one has another number
one-left : (keys : List NumberedKey) (n : ℕ) → 1 < length keys → AllPairs (λ one other. one ≢ other) (map (λ k. k.number) keys)
    → 0 < length (filter (λ k. not (k.number == n)) keys)
one-left [] n two apart = absurd (omega (arith, two))
one-left (k ∷ []) n two apart = absurd (omega (arith, two))
one-left (k ∷ l ∷ keys) n two apart =
    let differ : k.number ≢ l.number = apart 0 1 0 (omega arith) (omega arith) in grind (arith, nat_tests)

HasKeys-without_key : (e : Enrolment) (n : ℕ) → retire_refusal e n ≡ None → HasKeys e → HasKeys (without_key e n)
HasKeys-without_key e n plain has = record {
  some = one-left e.keys n (retire-plain e n plain) has.apart;
  few = omega (arith, length-filter_both (λ k. not (k.number == n)) (λ k. not (not (k.number == n))) (λ k. refl) e.keys, has.few);
  apart = subst (AllPairs (λ one other. one ≢ other)) (sym (numbers-filter e.keys n))
      (AllPairs-filter (λ one other. one ≢ other) (λ m. not (m == n)) (numbers_in e) has.apart);
}

-- ---- one event
abbrev HasKeysIn : Life → Type 0
HasKeysIn life = IfSome (enrolment_in life) HasKeys

-- a change of terms, by what it does to those that there are
changed : (change : Enrolment → Enrolment) (life : Life)
    → ((e : Enrolment) → enrolment_in life ≡ Some e → HasKeys e → HasKeys (change e))
    → HasKeysIn life → HasKeysIn (option_map (with_terms change) life)
changed change = by_life _ (λ step has. has) (λ refusals step has. has) (λ a refusals step has. step a.enrolment refl has)

HasKeys-done : (life : Life) (c : Command) → refusal_of (enrolment_in life) c ≡ None → HasKeysIn life → HasKeysIn (once_done [] life c)
HasKeys-done life c e f = grind (arith, HasKeys-one, changed, with_key, HasKeys-with_key, without_key, HasKeys-without_key)

HasKeys-command : (life : Life) (c : Command) (o : Option Refusal) → refusal_of (enrolment_in life) c ≡ o → HasKeysIn life
    → HasKeysIn (if is_some o then life else once_done [] life c)
HasKeys-command life c o e f = grind (arith, HasKeys-done)

module _ {A : Type 0} where
  HasKeys-after : (life : Life) (e : Event A) → HasKeysIn life → HasKeysIn (after life e)
  HasKeys-after life e f = grind (arith, HasKeys-command, same-enrolment, by_life)

  HasKeys-life_after : (life : Life) (events : List (Event A)) → HasKeysIn life → HasKeysIn (life_after life events)
  HasKeys-life_after life [] has = has
  HasKeys-life_after life (e ∷ events) has = HasKeys-life_after (after life e) events (HasKeys-after life e has)

  pub HasKeys-life_of : (events : List (Event A)) → HasKeysIn (life_of events)
  HasKeys-life_of events = HasKeys-life_after None events tt
