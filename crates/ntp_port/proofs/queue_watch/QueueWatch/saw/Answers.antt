use Rattle.std.proofs.Common.{[], refl, arith}
use Rattle.ntp_port.proofs.queue_watch.QueueWatch.saw.Goals as goal

pub returns-clause-counts : goal.returns-clause-counts
returns-clause-counts c = λ history waits. ([], history, c.args.count, refl, omega arith)
