use Rattle.ntp_clerk.proofs.Stepping.{enrolled-goes}
use Rattle.ntp_clerk.proofs.leading.enrolling.Goals as goal

pub returns-clause-goes : goal.returns-clause-goes
returns-clause-goes c = enrolled-goes c.args.address c.args.terms.now c.rollover_if_any-newer.result c.requires c.rollover_if_any-newer.ensures
