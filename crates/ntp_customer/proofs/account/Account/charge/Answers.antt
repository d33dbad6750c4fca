use Rattle.ntp_customer.proofs.Charged.{IsTally-charged}
use Rattle.ntp_customer.proofs.account.Account.charge.Goals as goal

pub invariant_of-self : goal.invariant_of-self
invariant_of-self g c = (
  c.self.invariant.0,
  c.self.invariant.1,
  c.self.invariant.2,
  IsTally-charged c.self.inside.queries c.charge.new.self c.args.w c.charge.ensures.stands c.charge.ensures.after,
)
