use Rattle.std.specs.FinMap.{from_entries}
use Rattle.ntp_service.proofs.{AddressLaws.numbers, Entries.from_entries-insert}
use Rattle.ntp_service.proofs.store.Register.put_holder.Goals as goal

pub returns-clause-ok : goal.returns-clause-ok
returns-clause-ok g c =
    rw (← c.self.view_is) (λ i. record {
      customers = from_entries c.self.inside.customers.entries;
      holders = from_entries-insert numbers c.self.inside.holders.entries c.insert.new.self.entries c.args.number c.args.address
          c.in_ok-insert.ensures.updates.0 i;
    })
