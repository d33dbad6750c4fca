use Rattle.ntp_port.proofs.Watching.{fresh-known, known-fresh}
use Rattle.ntp_port.proofs.queue_watch.QueueWatch.is_fresh.Goals as goal

pub returns-clause-fresh : goal.returns-clause-fresh
returns-clause-fresh c = λ history watches is. fresh-known c.args.self.now history c.args.now watches (c.is_known_within.ensures.0 is)

pub returns-clause-stale : goal.returns-clause-stale
returns-clause-stale c =
    λ history watches ordered may. c.is_known_within.ensures.1 (known-fresh c.args.self.now history c.args.now watches ordered may)
