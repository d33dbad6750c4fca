-- What the changes of a register do to the agreement of its customers and its holders.
use Rattle.std.proofs.Common.{◌≡◌, ◌≢◌, ℕ, true, false, List, [], ◌∷◌, ◌++◌, Option, Some, None, Contains, refl, sym, ap, ◌∙◌, subst, ⊎_elim, unwrap_or, is_some, arith}
use Rattle.std.specs.{Prelude.◌↔◌, Ordering.nat_cmp, Option.option_map_or, Int.NonZero.non_zero_u16_get}
use Rattle.std.specs.{declared.num.NonZeroU16.NonZeroU16, FinMap.get-empty}
use Rattle.std.proofs.{lemmas.Option.none-some, lemmas.Bool.Decides.nat_tests}
use Rattle.std.proofs.lemmas.List.Elements.{Contains-append_left, Contains-append_right, Contains-append_cases}
use Rattle.ntp_mac.specs.Key.{SymmetricKey}
use Rattle.ntp_service.specs.{declared.address.Address.Address, Address.address_cmp}
use Rattle.ntp_service.specs.{declared.refusal.Refusal.TheVariants.NotEnrolled, declared.command.Command.Command}
use Rattle.ntp_service.specs.Commands.{numbered, refusal_of}
use Rattle.ntp_customer.specs.{Tally.tally, declared.numbered_key.NumberedKey.NumberedKey}
use Rattle.ntp_customer.specs.Customer.{CustomerState, enrolment_of, enrolment_at, customer_from, revoked, rebudgeted, rolled_over, retired, is_enrolled, numbers_of}
use Rattle.ntp_customer.proofs.PublicLaws.{revoked-absent, numbers-rebudgeted}
use Rattle.ntp_service.specs.declared.command.Command.TheVariants.{Enrol, Revoke, Budget, Rollover, Retire}
use Rattle.ntp_service.specs.Registry.{Registry, Agrees, empty_registry, customer_at, is_enrolled_at, numbers_at, holder_of, with_customer, with_holder, without_holder, without_holders, after_command, own_refusal, holder_in_way}
use Rattle.ntp_service.proofs.AddressLaws.{same_or_other_address, same_or_other_number}
use Rattle.ntp_service.proofs.Members.{Contains-here, Contains-none, Contains-one, is_member}
use Rattle.ntp_service.proofs.Numbers.{found-number, numbers-rolled_over, numbers-retired}
use Rattle.ntp_service.proofs.Lookups.{numbers_held, numbers_at-with_customer, numbers_at-with_customer-other, holder_of-with_holder, holder_of-with_holder-other, holder_of-without_holders, holder_of-without_holders-other}

same_some : {X : Type 0} (x y : X) → Some x ≡ Some y → x ≡ y
same_some x y e = ap (λ o. unwrap_or o x) e

-- a number in a list that is empty
in_none : (ms : List ℕ) (n : ℕ) → ms ≡ [] → Contains ms n → ⊥
in_none ms n e is = Contains-none n (subst (λ l. Contains l n) e is)

-- a customer that is not enrolled has no number
no_numbers : (o : Option CustomerState) → option_map_or is_enrolled o false ≡ false → numbers_held o ≡ []
no_numbers o e = grind (arith, revoked-absent)

pub unenrolled-numbers : (r : Registry) (address : Address) → is_enrolled_at r address ≡ false → numbers_at r address ≡ []
unenrolled-numbers r address h = no_numbers (customer_at r address) h

-- the empty register agrees
pub agrees-empty : Agrees empty_registry
agrees-empty = record {
  held = λ a n h. absurd (in_none (numbers_at empty_registry a) n (ap numbers_held (get-empty address_cmp a)) h);
  enrolled = λ a n h. absurd (none-some a (sym (get-empty nat_cmp n) ∙ h));
}

-- no two addresses are enrolled with one number
pub one-holder : (r : Registry) (a b : Address) (number : ℕ) → Agrees r → Contains (numbers_at r a) number
    → Contains (numbers_at r b) number → a ≡ b
one-holder r a b number agrees first second = same_some a b (sym (agrees.held a number first) ∙ agrees.held b number second)

-- a register agrees as the one before did, where other addresses have the numbers that they had and hold what they held, and where
-- it agrees at this address
agrees-elsewhere : (r s : Registry) (address : Address) → ((a : Address) → a ≢ address → numbers_at s a ≡ numbers_at r a)
    → ((a : Address) (n : ℕ) → a ≢ address → (holder_of s n ≡ Some a) ↔ (holder_of r n ≡ Some a))
    → ((n : ℕ) → Contains (numbers_at s address) n ↔ (holder_of s n ≡ Some address)) → Agrees r → Agrees s
agrees-elsewhere r s address numbers holders here agrees = record { held = λ a n. (both a n).0; enrolled = λ a n. (both a n).1 }
  where
    both : (a : Address) (n : ℕ) → Contains (numbers_at s a) n ↔ (holder_of s n ≡ Some a)
    both a n = ⊎_elim
        (λ e. subst (λ x. Contains (numbers_at s x) n ↔ (holder_of s n ≡ Some x)) (sym e) (here n))
        (λ ne. subst (λ l. Contains l n ↔ (holder_of s n ≡ Some a)) (sym (numbers a ne))
        ((λ is. (holders a n ne).1 (agrees.held a n is)), (λ is. agrees.enrolled a n ((holders a n ne).0 is))))
        (same_or_other_address a address)

-- ---- the customer c of an address was written
module _ (r : Registry) (address : Address) (w : CustomerState) (agrees : Agrees r) where
  -- its numbers stay
  pub agrees-with_customer : (c : CustomerState) → customer_at r address ≡ Some c → numbers_of w ≡ numbers_of c
      → Agrees (with_customer r address w)
  agrees-with_customer c there same = agrees-elsewhere r (with_customer r address w) address (numbers_at-with_customer-other r address w)
      (λ a n ne. ((λ h. h), (λ h. h)))
      (λ n. subst (λ l. Contains l n ↔ (holder_of r n ≡ Some address))
      (sym (numbers_at-with_customer r address w ∙ same ∙ sym (ap numbers_held there)))
      (agrees.held address n, agrees.enrolled address n))
      agrees

  -- it has one number more, which was free, and holds it
  module _ (number : ℕ) (free : holder_of r number ≡ None) (more : numbers_of w ≡ numbers_at r address ++ number ∷ []) where
    abbrev taking : Registry
    taking = with_customer (with_holder r number address) address w

    abbrev before : List ℕ
    before = numbers_at r address

    now : holder_of taking number ≡ Some address
    now = holder_of-with_holder r number address

    stays : (n : ℕ) → n ≢ number → holder_of taking n ≡ holder_of r n
    stays = holder_of-with_holder-other r number address

    agrees-taking : Agrees taking
    agrees-taking = agrees-elsewhere r taking address (numbers_at-with_customer-other r address w) holders here agrees
      where
        holders : (a : Address) (n : ℕ) → a ≢ address → (holder_of taking n ≡ Some a) ↔ (holder_of r n ≡ Some a)
        holders a n ne = grind (arith, same_some, now, none-some, stays, same_or_other_number)

        here : (n : ℕ) → Contains (numbers_at taking address) n ↔ (holder_of taking n ≡ Some address)
        here n = subst (λ l. Contains l n ↔ (holder_of taking n ≡ Some address)) (sym (numbers_at-with_customer r address w ∙ more)) (⊎_elim
            (λ e. (
              (λ is. ap (holder_of taking) e ∙ now),
              (λ h. Contains-append_right before (number ∷ []) n (Contains-here number [] n (sym e))),
            ))
            (λ other. (
              (λ is. stays n other ∙ agrees.held address n (⊎_elim (λ old. old) (λ new. absurd (other (sym (Contains-one number n new))))
                  (Contains-append_cases before (number ∷ []) n is))),
              (λ h. Contains-append_left before (number ∷ []) n (agrees.enrolled address n (sym (stays n other) ∙ h))),
            ))
            (same_or_other_number n number))

  -- it has these of its numbers no more, and they are free
  module _ (freed : List ℕ) (own : (n : ℕ) → Contains freed n → Contains (numbers_at r address) n)
      (rest : (n : ℕ) → Contains (numbers_of w) n ↔ (Contains (numbers_at r address) n × (Contains freed n → ⊥))) where
    abbrev freeing : Registry
    freeing = without_holders (with_customer r address w) freed

    gone : (n : ℕ) → Contains freed n → holder_of freeing n ≡ None
    gone = holder_of-without_holders r freed

    kept : (n : ℕ) → (Contains freed n → ⊥) → holder_of freeing n ≡ holder_of r n
    kept = holder_of-without_holders-other r freed

    agrees-freeing : Agrees freeing
    agrees-freeing = agrees-elsewhere r freeing address (numbers_at-with_customer-other r address w) holders here agrees
      where
        holders : (a : Address) (n : ℕ) → a ≢ address → (holder_of freeing n ≡ Some a) ↔ (holder_of r n ≡ Some a)
        holders a n ne = ⊎_elim
            (λ is. (
              (λ h. absurd (none-some a (sym (gone n is) ∙ h))),
              (λ h. absurd (ne (same_some a address (sym h ∙ agrees.held address n (own n is))))),
            ))
            (λ never. ((λ h. sym (kept n never) ∙ h), (λ h. kept n never ∙ h)))
            (is_member freed n)

        here : (n : ℕ) → Contains (numbers_at freeing address) n ↔ (holder_of freeing n ≡ Some address)
        here n = subst (λ l. Contains l n ↔ (holder_of freeing n ≡ Some address)) (sym (numbers_at-with_customer r address w)) (⊎_elim
            (λ is. ((λ left. absurd (((rest n).0 left).1 is)), (λ h. absurd (none-some address (sym (gone n is) ∙ h)))))
            (λ never. (
              (λ left. kept n never ∙ agrees.held address n ((rest n).0 left).0),
              (λ h. (rest n).1 (agrees.enrolled address n (sym (kept n never) ∙ h), never)),
            ))
            (is_member freed n))

-- an enrolment of an address that is not enrolled, with a number that is free, keeps the agreement
agrees-enrol : (r : Registry) (address : Address) (key : NumberedKey) (budget : ℕ) → is_enrolled_at r address ≡ false
    → holder_of r key.number ≡ None → Agrees r
    → Agrees (with_customer (with_holder r key.number address) address (customer_from (tally []) (enrolment_of key budget)))
agrees-enrol r address key budget new free agrees = grind (arith, agrees-taking, unenrolled-numbers)

module _ (r : Registry) (address : Address) (c : CustomerState) (there : customer_at r address ≡ Some c) (agrees : Agrees r) where
  -- so does one key more of an address that is enrolled, with a number that is free
  agrees-rollover : (key : NumberedKey) → is_enrolled c ≡ true → holder_of r key.number ≡ None
      → Agrees (with_customer (with_holder r key.number address) address (rolled_over c key))
  agrees-rollover key enrolled free = grind (arith, agrees-taking, numbers-rolled_over, numbers_held)

  -- the end of a key
  agrees-retire : (number : ℕ) → Contains (numbers_at r address) number
      → Agrees (without_holder (with_customer r address (retired c number)) number)
  agrees-retire number held = agrees-freeing r address (retired c number) agrees (number ∷ [])
      (λ n is. subst (Contains (numbers_at r address)) (Contains-one number n is) held)
      (λ n. subst (λ l. Contains (numbers_of (retired c number)) n ↔ (Contains l n × (Contains (number ∷ []) n → ⊥)))
      (sym (ap numbers_held there)) (
        (λ left. (((numbers-retired number n c).0 left).0, λ is. ((numbers-retired number n c).0 left).1 (sym (Contains-one number n is)))),
        (λ both. (numbers-retired number n c).1 (both.0, λ e. both.1 (Contains-here number [] n (sym e)))),
      ))

  -- and the end of an enrolment
  agrees-revoke : Agrees (without_holders (with_customer r address (revoked c)) (numbers_of c))
  agrees-revoke = agrees-freeing r address (revoked c) agrees (numbers_of c)
      (λ n is. subst (λ l. Contains l n) (sym (ap numbers_held there)) is)
      (λ n. (
        (λ is. absurd (Contains-none n is)),
        (λ both. absurd (both.1 (subst (λ l. Contains l n) (ap numbers_held there) both.0))),
      ))

-- ---- a command that is done
-- what refuses an address that is not enrolled, and not this one, is told of a customer that is
enrolled-there : (c : Command) → refusal_of None c ≡ Some NotEnrolled → (o : Option CustomerState)
    → refusal_of (option_map_or enrolment_at o None) c ≡ None → (d : CustomerState) × (o ≡ Some d) × (is_enrolled d ≡ true)
enrolled-there c asks o own = grind (arith, is_some)

unenrolled-there : (o : Option CustomerState) (address : Address) (number budget : NonZeroU16) (key : SymmetricKey)
    → refusal_of (option_map_or enrolment_at o None) (Enrol address number key budget) ≡ None → option_map_or is_enrolled o false ≡ false
unenrolled-there o address number budget key own = grind (arith, is_some)

-- a key that is taken is one that is held
retired-held : (d : CustomerState) (address : Address) (number : NonZeroU16) → refusal_of (enrolment_at d) (Retire address number) ≡ None
    → Contains (numbers_of d) (non_zero_u16_get number)
retired-held d address number own = grind (arith, found-number, nat_tests)

-- a command that nothing is in the way of keeps the agreement
pub agrees-after : (r : Registry) (c : Command) → own_refusal r c ≡ None → holder_in_way r c ≡ None → Agrees r → Agrees (after_command r c)
agrees-after r (Enrol address number key budget) own free agrees =
    agrees-enrol r address (numbered number key) (non_zero_u16_get budget)
    (unenrolled-there (customer_at r address) address number budget key own) free agrees
agrees-after r (Revoke address) own free agrees =
    let it = enrolled-there (Revoke address) refl (customer_at r address) own in rw it.1 (agrees-revoke r address it.0 it.1 agrees)
agrees-after r (Budget address budget) own free agrees =
    let it = enrolled-there (Budget address budget) refl (customer_at r address) own in
    rw it.1 (agrees-with_customer r address (rebudgeted it.0 (non_zero_u16_get budget)) agrees it.0 it.1
    (numbers-rebudgeted it.0 (non_zero_u16_get budget)))
agrees-after r (Rollover address number key) own free agrees =
    let it = enrolled-there (Rollover address number key) refl (customer_at r address) own in
    rw it.1 (agrees-rollover r address it.0 it.1 agrees (numbered number key) it.2 free)
agrees-after r (Retire address number) own free agrees =
    let it = enrolled-there (Retire address number) refl (customer_at r address) own in
    let held = retired-held it.0 address number (subst (λ o. refusal_of (option_map_or enrolment_at o None) (Retire address number) ≡ None) it.1 own) in
    rw it.1 (agrees-retire r address it.0 it.1 agrees (non_zero_u16_get number) (subst (λ o. Contains (numbers_held o) (non_zero_u16_get number)) (sym it.1) held))
