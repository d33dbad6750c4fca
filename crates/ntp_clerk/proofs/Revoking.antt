-- Addresses that are made revoked ones.
use Rattle.std.proofs.Common.{◌≡◌, None, List, [], ◌∷◌, ◌++◌, length, take, get_or, ℕ, ◌+◌, ◌<◌, append_assoc, ⊎_elim, sym, ap, ◌∙◌, subst}
use Rattle.std.specs.{Prelude.All, Prelude.IsSome, Option.option_map_or, declared.alloc.Global.Global}
use Rattle.std.proofs.lemmas.List.Elements.{All-nil, All-more, All-weaker}
use Rattle.ntp_customer.specs.Customer.{enrolment_at}
use Rattle.ntp_service.specs.{declared.address.Address.Address, declared.command.Command.Command, Headline.StandsFor}
use Rattle.ntp_service.specs.Registry.{Registry, customer_at, terms_at}
use Rattle.ntp_clerk.specs.Leading.{HasExactly, LeadsTo, Makes, NobodyIsForgotten}
use Rattle.ntp_clerk.specs.{declared.wanted.Wanted.Wanted, Steps.AreDone, Steps.Revokes}
use Rattle.ntp_service.proofs.PublicLaws.{same_or_other_address}
use Rattle.ntp_clerk.proofs.Doing.{leads-none, leads-append, done-append}
use Rattle.ntp_clerk.proofs.Having.{enrolled-known}

pub record Folded (from : Registry) (addresses : List Address) (commands : List Command) (now : Registry) : Type 0 where
  pub nobody : (other : Address) → terms_at now other ≡ None
  pub leads : LeadsTo from commands now
  pub known : All (λ a. IsSome (customer_at now a)) addresses

pub folded-none : (from : Registry) → StandsFor {A = Global} from [] → Folded from [] [] from
folded-none from stands = record {
  nobody = λ q. ap (λ o. option_map_or enrolment_at o None) (stands.entries q);
  leads = leads-none from;
  known = All-nil (λ a. IsSome (customer_at from a));
}

pub folded-more : (from r s : Registry) (addresses : List Address) (i : ℕ) (d : Address) (old new : List Command) → i < length addresses
    → Folded from (take i addresses) old r → Revokes r (get_or addresses i d) old new s → Folded from (take (i + 1) addresses) new s
folded-more from r s addresses i d old new inside folded revokes = record {
  nobody = revokes.nobody;
  leads = subst (λ cs. LeadsTo from cs s) (sym revokes.noted) (leads-append from r s old revokes.more folded.leads revokes.leads);
  known = All-more (λ a. IsSome (customer_at s a)) addresses i d inside
      (All-weaker (λ a. IsSome (customer_at r a)) (λ a. IsSome (customer_at s a)) revokes.known (take i addresses) folded.known) revokes.is_known;
}

-- one address is revoked
pub revoked : (r mid s : Registry) (a : Address) (one other : Command) (old noted new : List Command) → AreDone r a (one ∷ []) mid → AreDone mid a (other ∷ []) s
    → noted ≡ old ++ one ∷ [] → new ≡ noted ++ other ∷ [] → ((q : Address) → terms_at r q ≡ None) → IsSome (terms_at mid a) → terms_at s a ≡ None → Revokes r a old new s
revoked r mid s a one other old noted new first next had has nobody enrolled gone =
    let both = done-append r mid s a (one ∷ []) (other ∷ []) first next in
    record {
      more = one ∷ other ∷ [];
      noted = has ∙ ap (λ cs. cs ++ other ∷ []) had ∙ append_assoc old (one ∷ []) (other ∷ []);
      leads = both.leads;
      is_known = next.known a (enrolled-known (customer_at mid a) enrolled);
      nobody = λ q. ⊎_elim (λ same. ap (terms_at s) same ∙ gone) (λ ne. both.others q ne ∙ nobody q) (same_or_other_address q a);
      known = both.known;
    }

pub makes : (from mid new service : Registry) (customers : List Wanted) (addresses : List Address) (first more all : List Command) → StandsFor {A = Global} from []
    → Folded from addresses first mid → LeadsTo mid more new → HasExactly new customers → NobodyIsForgotten mid new → HasExactly service customers
    → all ≡ first ++ more → Makes all addresses service
makes from mid new service customers addresses first more all stands folded leads exactly known wanted are = record {
  made = new;
  leads = (subst (λ cs. LeadsTo from cs new) (sym are) (leads-append from mid new first more folded.leads leads)) [] stands;
  same = λ a. exactly a ∙ sym (wanted a);
  known = All-weaker (λ a. IsSome (customer_at mid a)) (λ a. IsSome (customer_at new a)) known addresses folded.known;
}
