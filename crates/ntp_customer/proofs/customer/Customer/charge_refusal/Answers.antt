use Rattle.ntp_customer.proofs.Charged.{IsTally-charged}
use Rattle.ntp_customer.proofs.customer.Customer.charge_refusal.Goals as goal

pub invariant_of-self : goal.invariant_of-self
invariant_of-self g c = IsTally-charged c.self.inside.refusals c.charge.new.self c.args.w c.charge.ensures.stands c.charge.ensures.after
