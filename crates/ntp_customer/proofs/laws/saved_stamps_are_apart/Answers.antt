use Rattle.ntp_customer.proofs.Saved.{stamps-apart}
use Rattle.ntp_customer.proofs.laws.saved_stamps_are_apart.Goals as goal

pub returns : goal.returns
returns c = stamps-apart
