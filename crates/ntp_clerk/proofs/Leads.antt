-- Commands that lead to wanted customers, address by address.
use Rattle.std.proofs.Common.{◌≡◌, ◌≢◌, ◌⊎◌, inl, inr, ⊎_elim, Option, Some, None, List, [], ◌∷◌, map, refl, sym, ap, ◌∙◌, subst, arith}
use Rattle.std.specs.Prelude.{All, Contains, IsSome, find, option_map}
use Rattle.std.proofs.lemmas.List.Elements.{All-nil, All-append, All-weaker, All-contains_itself}
use Rattle.ntp_customer.proofs.PublicLaws.{Contains-map}
use Rattle.ntp_customer.specs.Customer.{Enrolment, CustomerState}
use Rattle.ntp_service.specs.{declared.address.Address.Address, declared.command.Command.Command, Address.address_eq}
use Rattle.ntp_service.specs.Registry.{Registry, customer_at, terms_at}
use Rattle.ntp_service.proofs.PublicLaws.{same_or_other_address}
use Rattle.ntp_clerk.specs.Leading.{enrolment_among, enrolment_with, HasExactly, IsNeeded, IsNeededAt, LeadsTo, NobodyIsForgotten}
use Rattle.ntp_clerk.specs.{declared.wanted.Terms.Terms, declared.wanted.Wanted.Wanted, Steps.Kept, Steps.Moves, Steps.OnlyWanted}
use Rattle.ntp_clerk.proofs.{Having.found, Doing.leads-none, Doing.leads-append, Stepping.Contains-cases, Stepping.Contains-none}

-- commands have led so far, and each was needed
pub record Reaches (from : Registry) (customers : List Wanted) (commands : List Command) (to : Registry) : Type 0 where
  pub leads : LeadsTo from commands to
  pub needed : All (IsNeeded from customers) commands
  pub kept : (q : Address) → Kept (terms_at from q) (enrolment_among customers q) (terms_at to q)
  pub known : NobodyIsForgotten from to

kept-none : (held wanted : Option Enrolment) → Kept held wanted held
kept-none held wanted = record { same = λ e. refl; keeps = λ none. none }

kept-more : (held wanted mid now : Option Enrolment) → Kept held wanted mid → Kept mid wanted now → Kept held wanted now
kept-more held wanted mid now first more = grind arith

pub reaches-none : (from : Registry) (customers : List Wanted) → Reaches from customers [] from
reaches-none from customers = record {
  leads = leads-none from;
  needed = All-nil (IsNeeded from customers);
  kept = λ q. kept-none (terms_at from q) (enrolment_among customers q);
  known = λ q was. was;
}

-- all that an address outside `left` has is wanted of it
pub record Freeing (from : Registry) (customers : List Wanted) (left : List Address) (commands : List Command) (now : Registry) : Type 0 where
  pub reaches : Reaches from customers commands now
  pub only : (q : Address) → OnlyWanted (terms_at now q) (enrolment_among customers q) ⊎ Contains left q

-- and all that is wanted of an address outside the customers in `left` it has
pub record Giving (from : Registry) (customers left : List Wanted) (commands : List Command) (now : Registry) : Type 0 where
  pub reaches : Reaches from customers commands now
  pub only : (q : Address) → OnlyWanted (terms_at now q) (enrolment_among customers q)
  pub has : (q : Address) → (terms_at now q ≡ enrolment_among customers q) ⊎ Contains (map (λ w. w.address) left) q

-- what is wanted is only wanted
only-itself : (wanted : Option Enrolment) → OnlyWanted wanted wanted
only-itself wanted = grind (arith, All-contains_itself)

module _ (from r s : Registry) (customers : List Wanted) (a : Address) (old new : List Command)
    (moves : Moves r a (enrolment_among customers a) old new s) where
  -- at other addresses all is as it was
  at-address : (P : Address → Option Enrolment → Type 0) → P a (terms_at s a) → ((q : Address) → q ≢ a → P q (terms_at r q)) → (q : Address) → P q (terms_at s q)
  at-address P here there q = ⊎_elim
      (λ same. subst (λ q. P q (terms_at s q)) (sym same) here)
      (λ ne. subst (P q) (sym (moves.done.others q ne)) (there q ne))
      (same_or_other_address q a)

  reaches-more : Reaches from customers old r → Reaches from customers new s
  reaches-more reaches = record {
    leads = subst (λ cs. LeadsTo from cs s) (sym moves.noted) (leads-append from r s old moves.more reaches.leads moves.done.leads);
    needed = subst (All (IsNeeded from customers)) (sym moves.noted) (All-append (IsNeeded from customers) old moves.more reaches.needed
        (All-weaker (IsNeededAt a (terms_at r a) (enrolment_among customers a)) (IsNeeded from customers) needs moves.more moves.needed));
    kept = at-address (λ q now. Kept (terms_at from q) (enrolment_among customers q) now) (kept-more _ _ _ _ (reaches.kept a) moves.kept)
        (λ q ne. reaches.kept q);
    known = λ q was. moves.done.known q (reaches.known q was);
  }
    where
      needs-here : (c : Command) → IsNeededAt a (terms_at r a) (enrolment_among customers a) c
          → IsNeededAt a (terms_at from a) (enrolment_among customers a) c
      needs-here c is = record {
        named = is.named;
        differs = λ same. is.differs ((reaches.kept a).same same ∙ same);
        ends_none = λ ends. (reaches.kept a).keeps (is.ends_none ends);
      }

      needs : (c : Command) → IsNeededAt a (terms_at r a) (enrolment_among customers a) c → IsNeeded from customers c
      needs c is = grind (arith, needs-here)

  -- an address outside `left` stays so
  past : (P : Type 0) (left : List Address) (q : Address) → q ≢ a → P ⊎ Contains (a ∷ left) q → P ⊎ Contains left q
  past P left q ne is = ⊎_elim inl (λ there. ⊎_elim (λ same. absurd (ne (sym same))) inr (Contains-cases a left q there)) is

  pub freeing-more : (left : List Address) → OnlyWanted (terms_at s a) (enrolment_among customers a) → Freeing from customers (a ∷ left) old r
      → Freeing from customers left new s
  freeing-more left only freeing = record {
    reaches = reaches-more freeing.reaches;
    only = at-address (λ q now. OnlyWanted now (enrolment_among customers q) ⊎ Contains left q) (inl only)
        (λ q ne. past (OnlyWanted (terms_at r q) (enrolment_among customers q)) left q ne (freeing.only q));
  }

  pub giving-more : (terms : Terms) (left : List Wanted) → terms_at s a ≡ enrolment_among customers a
      → Giving from customers (record { address = a; terms = terms } ∷ left) old r → Giving from customers left new s
  giving-more terms left here giving = record {
    reaches = reaches-more giving.reaches;
    only = at-address (λ q now. OnlyWanted now (enrolment_among customers q)) (rw here (only-itself (enrolment_among customers a))) (λ q ne. giving.only q);
    has = at-address (λ q now. (now ≡ enrolment_among customers q) ⊎ Contains (map (λ w. w.address) left) q) (inl here)
        (λ q ne. past (terms_at r q ≡ enrolment_among customers q) (map (λ w. w.address) left) q ne (giving.has q));
  }

-- ---- before the first loop, before the second, and behind it

pub freeing-none : (from : Registry) (customers : List Wanted) (addresses : List Address)
    → ((q : Address) → IsSome (customer_at from q) → Contains addresses q) → Freeing from customers addresses [] from
freeing-none from customers addresses all = record { reaches = reaches-none from customers; only = λ q. by-customer q (customer_at from q) refl }
  where
    by-customer : (q : Address) (o : Option CustomerState) → customer_at from q ≡ o
        → OnlyWanted (terms_at from q) (enrolment_among customers q) ⊎ Contains addresses q
    by-customer q o e = grind arith

pub giving-none : (from now : Registry) (customers : List Wanted) (commands : List Command) → Freeing from customers [] commands now
    → Giving from customers customers commands now
giving-none from now customers commands freed =
    record { reaches = freed.reaches; only = only; has = λ q. by-found q (find (λ w. address_eq q w.address) customers) refl }
  where
    only : (q : Address) → OnlyWanted (terms_at now q) (enrolment_among customers q)
    only q = ⊎_elim (λ only. only) (λ there. absurd (Contains-none q there)) (freed.only q)

    nothing : (o : Option Enrolment) → OnlyWanted o None → o ≡ None
    nothing o e = grind (arith, only)

    by-found : (q : Address) (o : Option Wanted) → find (λ w. address_eq q w.address) customers ≡ o
        → (terms_at now q ≡ enrolment_among customers q) ⊎ Contains (map (λ w. w.address) customers) q
    by-found q None is =
        let none : enrolment_among customers q ≡ None = ap (option_map (λ w. enrolment_with w.terms)) is in
        inl (nothing (terms_at now q) (subst (OnlyWanted (terms_at now q)) none (only q)) ∙ sym none)
    by-found q (Some w) is =
        let there = found customers q w (Contains customers) (All-contains_itself customers) is in
        inr (subst (Contains (map (λ w. w.address) customers)) (sym there.1) (Contains-map (λ w. w.address) customers w there.0))

pub have-exactly : (from now : Registry) (customers : List Wanted) (commands : List Command) → Giving from customers [] commands now
    → HasExactly now customers
have-exactly from now customers commands given q = ⊎_elim (λ has. has) (λ there. absurd (Contains-none q there)) (given.has q)
