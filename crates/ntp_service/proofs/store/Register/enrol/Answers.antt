use Rattle.std.proofs.Common.{rules}
use Rattle.ntp_service.proofs.store.Register.enrol.Goals as goal

pub returns-clause-answers : goal.returns-clause-answers
returns-clause-answers g c = (c.unwrap.result, c.unwrap-2.result, search rules, search rules, c.carry_out.ensures.answers)
