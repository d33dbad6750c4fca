use Rattle.std.proofs.Common.{◌≡◌, ap, arith}
use Rattle.ntp_port.specs.declared.queue_watch.QueueWatch.{QueueWatch}
use Rattle.ntp_port.proofs.{Keeping.Counts-took, queue_watch.QueueWatch.took.Goals.then-self-eq1, queue_watch.QueueWatch.took.Goals.else-self-eq1}
use Rattle.ntp_port.proofs.queue_watch.QueueWatch.took.Goals as goal

pub returns-clause-counts : goal.returns-clause-counts
returns-clause-counts c =
    let seen : c.if-self-eq1.self.seen ≡ c.args.self.now.seen = elim c.if-self-eq1.branch [
      | then-self-eq1 w ↦ ap (λ (s : QueueWatch). s.seen) w.self-is
      | else-self-eq1 w ↦ ap (λ (s : QueueWatch). s.seen) w.self-is
    ] in
    let waiting : c.if-self-eq1.self.waiting ≡ c.args.self.now.waiting = elim c.if-self-eq1.branch [
      | then-self-eq1 w ↦ ap (λ (s : QueueWatch). s.waiting) w.self-is
      | else-self-eq1 w ↦ ap (λ (s : QueueWatch). s.waiting) w.self-is
    ] in
    let after : QueueWatch = record {
      known = c.if-self-eq1.self.known;
      waiting = c.saturating_sub-self.result;
      seen = c.if-self-eq1.self.seen;
      longest = c.if-self-eq1.self.longest;
    } in
    λ history at counts. Counts-took c.args.self.now after history at seen (omega (arith, waiting, c.saturating_sub-self.ensures)) counts
