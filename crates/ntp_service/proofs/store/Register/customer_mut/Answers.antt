use Rattle.std.proofs.Common.{sym, ◌∙◌}
use Rattle.std.specs.FinMap.{from_entries}
use Rattle.ntp_service.proofs.{Loans.same_return_if, AddressLaws.addresses, Entries.get-lookup, Entries.from_entries-insert}
use Rattle.ntp_service.proofs.store.Register.customer_mut.Goals as goal

pub returns : goal.returns
returns g c =
    rw (← c.self.view_is) (
      same_return_if c.get_mut.result _ c.get_mut.ensures.value _ _ _ _
          (λ there w i. record {
            customers = from_entries-insert addresses c.self.inside.customers.entries (c.get_mut.follows.lender w).entries c.args.address w
                ((c.get_mut.follows.holds w).3 there).0 i;
            holders = from_entries c.self.inside.holders.entries;
          })
          (λ i. record {
            customers = from_entries (c.get_mut.follows.holds-at-none i).entries;
            holders = from_entries c.self.inside.holders.entries;
          }),
      record {
        writes_back = tt;
        value = c.get_mut.ensures.value ∙ sym (get-lookup addresses c.self.inside.customers.entries c.args.address);
      },
    )
