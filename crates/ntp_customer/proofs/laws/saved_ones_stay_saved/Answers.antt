use Rattle.ntp_customer.proofs.Saved.{AreSaved-nil, AreSaved-push, AreSaved-spent, AreSaved-departed}
use Rattle.ntp_customer.proofs.laws.saved_ones_stay_saved.Goals as goal

pub returns : goal.returns
returns c = record { none = AreSaved-nil; pushed = AreSaved-push; spent = AreSaved-spent; departed = AreSaved-departed }
