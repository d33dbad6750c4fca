use Rattle.std.proofs.Common.{rules}
use Rattle.ntp_service.proofs.store.Register.set_budget.Goals as goal

pub returns-clause-answers : goal.returns-clause-answers
returns-clause-answers g c = (c.unwrap.result, search rules, c.carry_out.ensures.answers)
