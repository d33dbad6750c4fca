use Rattle.std.proofs.Common.{◌≡◌, None, is_some, true≢false, ap, sym, ◌∙◌}
use Rattle.std.specs.FinMap.{from_entries}
use Rattle.ntp_service.specs.Registry.{customer_at}
use Rattle.ntp_service.proofs.{AddressLaws.addresses, Entries.get-lookup, Entries.from_entries-insert}
use Rattle.ntp_service.proofs.store.Register.put_customer.Goals as goal

pub returns-clause-ok : goal.returns-clause-ok
returns-clause-ok g c =
    rw (← c.self.view_is) (λ i. record {
      customers = from_entries-insert addresses c.self.inside.customers.entries c.insert.new.self.entries c.args.address c.args.customer
          c.in_ok-insert.ensures.updates.0 i;
      holders = from_entries c.self.inside.holders.entries;
    })

pub returns-in_err-insert-clause-replaced : goal.returns-in_err-insert-clause-replaced
returns-in_err-insert-clause-replaced g c = λ there.
    let absent : customer_at c.args.self.now c.args.address ≡ None =
    rw (← c.self.view_is) (get-lookup addresses c.self.inside.customers.entries c.args.address ∙ c.in_err-insert.ensures.absent) in
    absurd (true≢false (sym there ∙ ap is_some absent))
