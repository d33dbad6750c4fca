-- The customers that a service has, address by address.
use Rattle.std.proofs.Common.{◌≡◌, ◌⊎◌, inl, inr, ⊎_elim, Bool, Option, Some, None, List, [], ◌∷◌, ◌++◌, map, true≢false, refl, sym, ap, ◌∙◌, subst, arith}
use Rattle.std.specs.Prelude.{All, Contains, IsSome, is_some, find, if◌then◌else◌, option_map}
use Rattle.std.specs.{Option.option_map_or, List.Sorted.IsPermutation}
use Rattle.std.proofs.lemmas.List.{map-append}
use Rattle.std.proofs.lemmas.List.Sorted.{All-permutation, Contains-permutation, IsPermutation-map}
use Rattle.std.proofs.lemmas.List.Elements.{All-nil, All-push, All-head, All-tail, Contains-append_left, Contains-push}
use Rattle.ntp_customer.specs.Customer.{Enrolment, CustomerState, enrolment_at}
use Rattle.ntp_service.specs.{declared.address.Address.Address, Address.address_eq}
use Rattle.ntp_service.specs.Registry.{Registry, customer_at, terms_at}
use Rattle.ntp_service.proofs.PublicLaws.{same-address, address_eq_equiv}
use Rattle.ntp_clerk.specs.{declared.wanted.Terms.Terms, declared.wanted.Wanted.Wanted}
use Rattle.ntp_clerk.proofs.Stepping.{Contains-cases, Contains-none}
use Rattle.ntp_clerk.specs.Leading.{enrolment_among, enrolment_with, HasExactly}

-- who is listed is enrolled so, and who is enrolled outside `left` is listed
pub record Having (service : Registry) (left : List Address) (customers : List Wanted) : Type 0 where
  pub each : All (λ w. terms_at service w.address ≡ Some (enrolment_with w.terms)) customers
  pub listed : (q : Address) → IsSome (terms_at service q) → Contains (map (λ w. w.address) customers) q ⊎ Contains left q

-- who is enrolled is known
pub enrolled-known : (o : Option CustomerState) → IsSome (option_map_or enrolment_at o None) → IsSome o
enrolled-known o e = grind arith

pub having-none : (service : Registry) (addresses : List Address) → ((q : Address) → IsSome (customer_at service q) → Contains addresses q)
    → Having service addresses []
having-none service addresses all = record {
  each = All-nil (λ w. terms_at service w.address ≡ Some (enrolment_with w.terms));
  listed = λ q enrolled. inr (all q (enrolled-known (customer_at service q) enrolled));
}

module _ (service : Registry) (a : Address) (left : List Address) (customers : List Wanted) (having : Having service (a ∷ left) customers) where
  pub having-one : (terms : Terms) → option_map enrolment_with (Some terms) ≡ terms_at service a
      → Having service left (customers ++ record { address = a; terms = terms } ∷ [])
  having-one terms is = record {
    each = All-push (λ w. terms_at service w.address ≡ Some (enrolment_with w.terms)) customers (record { address = a; terms = terms }) having.each (sym is);
    listed = λ q enrolled. rw (map-append (λ w. w.address) customers (record { address = a; terms = terms } ∷ [])) (⊎_elim
        (λ before. inl (Contains-append_left (map (λ w. w.address) customers) (a ∷ []) q before))
        (λ there. ⊎_elim (λ same. inl (subst (Contains (map (λ w. w.address) customers ++ a ∷ [])) same (Contains-push (map (λ w. w.address) customers) a))) inr (Contains-cases a left q there))
        (having.listed q enrolled));
  }

  pub having-no : option_map enrolment_with None ≡ terms_at service a → Having service left customers
  having-no is = record {
    each = having.each;
    listed = λ q enrolled. ⊎_elim inl
        (λ there. ⊎_elim (λ same. absurd (true≢false (sym enrolled ∙ ap (λ q. is_some (terms_at service q)) (sym same) ∙ ap is_some (sym is)))) inr
        (Contains-cases a left q there)) (having.listed q enrolled);
  }

-- the same in another order
pub having-permuted : (service : Registry) (left : List Address) (customers others : List Wanted) → IsPermutation customers others
    → Having service left customers → Having service left others
having-permuted service left customers others permutation having = record {
  each = All-permutation (λ w. terms_at service w.address ≡ Some (enrolment_with w.terms)) customers others permutation having.each;
  listed = λ q enrolled. ⊎_elim
      (λ there. inl (Contains-permutation (map (λ w. w.address) customers) (map (λ w. w.address) others) q
      (IsPermutation-map (λ w. w.address) customers others permutation) there))
      inr (having.listed q enrolled);
}

-- ---- all of them

-- what is found has the address, and what holds of each
pub found : (customers : List Wanted) (q : Address) (w : Wanted) (P : Wanted → Type 0) → All P customers
    → find (λ w. address_eq q w.address) customers ≡ Some w → P w × (q ≡ w.address)
found [] q w P all is = absurd cc
found (v ∷ vs) q w P all is = decided (address_eq q v.address) refl is (found vs q w P (All-tail P v vs all))
  where
    decided : (b : Bool) → address_eq q v.address ≡ b → (if b then Some v else find (λ w. address_eq q w.address) vs) ≡ Some w
        → (find (λ w. address_eq q w.address) vs ≡ Some w → P w × (q ≡ w.address)) → P w × (q ≡ w.address)
    decided b e f g = grind (arith, All-head, same-address)

pub none-found : (customers : List Wanted) (q : Address) → find (λ w. address_eq q w.address) customers ≡ None → Contains (map (λ w. w.address) customers) q → ⊥
none-found [] q none there = Contains-none q there
none-found (v ∷ vs) q none there = decided (address_eq q v.address) refl none (none-found vs q)
  where
    decided : (b : Bool) → address_eq q v.address ≡ b → (if b then Some v else find (λ w. address_eq q w.address) vs) ≡ None
        → (find (λ w. address_eq q w.address) vs ≡ None → Contains (map (λ w. w.address) vs) q → ⊥) → ⊥
    decided b e f g = grind (arith, address_eq_equiv, Contains-cases)

pub having-exactly : (service : Registry) (customers : List Wanted) → Having service [] customers → HasExactly service customers
having-exactly service customers having q = by-found (find (λ w. address_eq q w.address) customers) refl
  where
    by-terms : find (λ w. address_eq q w.address) customers ≡ None → (o : Option Enrolment) → terms_at service q ≡ o → terms_at service q ≡ None
    by-terms none None is = is
    by-terms none (Some e) is = absurd (⊎_elim (none-found customers q none) (Contains-none q) (having.listed q (ap is_some is)))

    by-found : (o : Option Wanted) → find (λ w. address_eq q w.address) customers ≡ o → terms_at service q ≡ enrolment_among customers q
    by-found None is = by-terms is (terms_at service q) refl ∙ sym (ap (option_map (λ w. enrolment_with w.terms)) is)
    by-found (Some w) is =
        let there = found customers q w (λ w. terms_at service w.address ≡ Some (enrolment_with w.terms)) having.each is in
        ap (terms_at service) there.1 ∙ there.0 ∙ sym (ap (option_map (λ w. enrolment_with w.terms)) is)
