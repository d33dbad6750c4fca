use Rattle.ntp_clerk.proofs.KeyText.{no-text}
use Rattle.ntp_clerk.proofs.grant.text_in.Goals as goal

pub returns-in-Err-clause-none : goal.returns-in-Err-clause-none
returns-in-Err-clause-none c = no-text c.args.octets.now c.in-Err.ensures.cases.0
