use Rattle.std.proofs.Common.{sym, ◌∙◌}
use Rattle.ntp_service.proofs.{AddressLaws.addresses, Entries.get-lookup}
use Rattle.ntp_service.proofs.store.Register.customer.Goals as goal

pub returns : goal.returns
returns g c = rw (← c.self.view_is) (c.get.ensures.value ∙ sym (get-lookup addresses c.self.inside.customers.entries c.args.address))
