use Rattle.std.proofs.Common.{drop}
use Rattle.ntp_clerk.proofs.Leads.{Freeing, Giving}
use Rattle.ntp_clerk.proofs.leading.commands_to.Given as goal

abbrev pub invariant-loop-address : goal.invariant-loop-address
invariant-loop-address l = Freeing l.fn.service l.fn.wanted (drop l.address-index l.address-items) l.commands.items l.service

abbrev pub invariant-loop-customer : goal.invariant-loop-customer
invariant-loop-customer l = Giving l.fn.service l.fn.wanted (drop l.customer-index l.wanted) l.commands.items l.service
