use Rattle.ntp_customer.proofs.Saved.{one-at_most}
use Rattle.ntp_customer.proofs.laws.at_most_one_has_a_receive_stamp.Goals as goal

pub returns : goal.returns
returns c = one-at_most
