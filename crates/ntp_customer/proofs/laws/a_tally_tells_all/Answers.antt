use Rattle.ntp_customer.proofs.Tallies.{tally-tells_all}
use Rattle.ntp_customer.proofs.laws.a_tally_tells_all.Goals as goal

pub returns : goal.returns
returns c = tally-tells_all
