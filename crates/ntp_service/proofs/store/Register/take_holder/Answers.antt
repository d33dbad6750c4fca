use Rattle.std.specs.FinMap.{from_entries}
use Rattle.ntp_service.proofs.{AddressLaws.numbers, Entries.from_entries-remove}
use Rattle.ntp_service.proofs.store.Register.take_holder.Goals as goal

pub returns : goal.returns
returns g c =
    rw (← c.self.view_is) (λ i. record {
      customers = from_entries c.self.inside.customers.entries;
      holders = from_entries-remove numbers c.self.inside.holders.entries c.swap_remove.new.self.entries c.args.number
          c.swap_remove.ensures.updates.0 i;
    })
