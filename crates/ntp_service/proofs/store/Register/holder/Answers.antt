use Rattle.std.proofs.Common.{sym, ◌∙◌}
use Rattle.ntp_service.proofs.{AddressLaws.numbers, Entries.get-lookup}
use Rattle.ntp_service.proofs.store.Register.holder.Goals as goal

pub returns : goal.returns
returns g c = rw (← c.self.view_is) (c.copied.ensures ∙ c.get.ensures.value ∙ sym (get-lookup numbers c.self.inside.holders.entries c.args.number))
