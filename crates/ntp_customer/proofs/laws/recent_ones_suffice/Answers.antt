use Rattle.ntp_customer.proofs.Recents.{recent-append, recent-with_recent, recent-spent, recent-departed}
use Rattle.ntp_customer.proofs.laws.recent_ones_suffice.Goals as goal

pub returns : goal.returns
returns c = record { appended = recent-append; changed = recent-with_recent; spent = recent-spent; departed = recent-departed }
