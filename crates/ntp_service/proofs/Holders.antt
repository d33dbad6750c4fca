-- Who holds a number.
use Rattle.std.proofs.Common.{◌≡◌, ℕ, zero, suc, ◌==◌, Option, Some, None, IsSome, Contains, is_some, option_map, List, [], ◌∷◌, map, find, refl, sym, ap, ◌∙◌, subst, true, arith}
use Rattle.std.specs.{Prelude.◌↔◌, Option.option_map_or}
use Rattle.std.proofs.lemmas.Bool.Decides.{nat_tests}
use Rattle.ntp_customer.specs.{declared.numbered_key.NumberedKey.NumberedKey, Past.short}
use Rattle.ntp_customer.specs.Customer.{Enrolment, enrolment_at, numbers_in}
use Rattle.ntp_service.specs.{declared.address.Address.Address, declared.command.Command.Command, declared.event.Event.Event}
use Rattle.ntp_service.specs.{Events.address_of, Events.own, Commands.number_wanted, Commands.refusal_of, Model.life_of}
use Rattle.ntp_service.specs.Registry.{Registry, terms_at, numbers_at, holder_of}
use Rattle.ntp_service.proofs.{Agreement.one-holder, Lookups.numbers_held, Lives.by_life, Lives.enrolment-kept}
use Rattle.ntp_reply.specs.Life.{Life, enrolment_in}
use Rattle.ntp_service.specs.declared.event.Event.TheVariants as event
use Rattle.ntp_service.specs.Headline.{StandsFor, IsEnrolledWith, IsTaken}

-- the numbers are kept
numbers-kept : (life : Life) → numbers_held (option_map short life) ≡ option_map_or numbers_in (enrolment_in life) []
numbers-kept = by_life _ refl (λ refusals. refl) (λ a refusals. refl)

the-some : {X : Type 0} (o : Option X) → IsSome o → (x : X) × (o ≡ Some x)
the-some o e = grind arith

-- a number that is held is found
pub held-number : (keys : List NumberedKey) (n : ℕ) → Contains (map (λ k. k.number) keys) n → is_some (find (λ k. k.number == n) keys) ≡ true
held-number [] n is = absurd (omega (arith, is.1))
held-number (k ∷ keys) n (zero, within, is) = grind (arith, nat_tests)
held-number (k ∷ keys) n (suc i, within, is) = let later = held-number keys n (i, omega arith, is) in grind (arith, nat_tests)

-- who asks for a number, and is not refused, does not hold it
asked-free : (c : Command) (terms : Option Enrolment) (n : ℕ) → number_wanted c ≡ Some n → refusal_of terms c ≡ None
    → Contains (option_map_or numbers_in terms []) n → ⊥
asked-free c terms n e f g = grind (arith, held-number)

module _ {A : Type 0} (r : Registry) (history : List (Event A)) (stands : StandsFor r history) where
  -- the register has the terms and the numbers of each life
  pub terms-are : (a : Address) → terms_at r a ≡ enrolment_in (life_of (own a history))
  terms-are a = ap (λ o. option_map_or enrolment_at o None) (stands.entries a) ∙ enrolment-kept (life_of (own a history))

  numbers-are : (a : Address) → numbers_at r a ≡ option_map_or numbers_in (enrolment_in (life_of (own a history))) []
  numbers-are a = ap numbers_held (stands.entries a) ∙ numbers-kept (life_of (own a history))

  holds : (a : Address) (number : ℕ) → IsEnrolledWith history a number → Contains (numbers_at r a) number
  holds a number is = subst (λ l. Contains l number) (sym (numbers-are a)) is

  -- no two addresses are enrolled with one number
  pub one-enrolled : (one two : Address) (number : ℕ) → IsEnrolledWith history one number → IsEnrolledWith history two number → one ≡ two
  one-enrolled one two number first second = one-holder r one two number stands.agrees (holds one number first) (holds two number second)

  -- the register has a holder of the number that a command asks for exactly where another address is enrolled with it
  pub taken-so : (c : Command) (n : ℕ) → number_wanted c ≡ Some n
      → refusal_of (enrolment_in (life_of (own (address_of {A = A} (event.Command c)) history))) c ≡ None
      → IsSome (holder_of r n) ↔ IsTaken history (event.Command c)
  taken-so c n asked plain = (there, back)
    where
      address : Address
      address = address_of {A = A} (event.Command c)

      there : IsSome (holder_of r n) → IsTaken history (event.Command c)
      there h = grind (arith, the-some, numbers-are, asked-free)

      back : IsTaken history (event.Command c) → IsSome (holder_of r n)
      back h =
          let other_asked = h.1.0 in
          let same : h.0 ≡ n = cc in
          subst (λ m. IsSome (holder_of r m)) same (subst IsSome (sym (stands.agrees.held h.2 h.0 (holds h.2 h.0 h.4))) refl)
