use Rattle.std.proofs.Common.{◌≡◌, ◌++◌, ap, sym, ◌∙◌, subst, append-nil}
use Rattle.std.specs.{Prelude.IsSome, Prelude.Contains, Map.keys_of, Map.lookup}
use Rattle.std.proofs.lemmas.Map.Views.{Contains-keys_from_lookup, IsSome-lookup_from_Contains}
use Rattle.ntp_service.specs.{Address.address_eq, Registry.customer_at}
use Rattle.ntp_service.proofs.{AddressLaws.addresses, AddressLaws.address_eq_equiv, Histories.same-address, Entries.get-lookup}
use Rattle.ntp_service.proofs.store.Register.addresses.Goals as goal

pub returns : goal.returns
returns g c = λ address.
    let entries = c.self.inside.customers.entries in
    let all : c.loop-address.addresses.items ≡ keys_of entries =
    sym (append-nil c.loop-address.addresses.items) ∙ ap (λ rest. c.loop-address.addresses.items ++ rest) (sym c.in-None.ensures.steps.0) ∙ c.loop-address.invariant
    ∙ c.into_iter-address-iterator.ensures.into_iter_gives ∙ c.keys-address-items.ensures.rest in
    let found : customer_at c.args.self.now address ≡ lookup (address_eq address) entries = rw (← c.self.view_is) (get-lookup addresses entries address) in (
      (λ is. subst IsSome (sym found) (IsSome-lookup_from_Contains address_eq_equiv address entries (subst (λ keys. Contains keys address) all is))),
      (λ is. subst (λ keys. Contains keys address) (sym all) (Contains-keys_from_lookup same-address address entries (subst IsSome found is))),
    )
