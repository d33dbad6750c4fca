use Rattle.std.proofs.Common.{◌≡◌, Some, false, drop, refl, sym, ◌∙◌}
use Rattle.std.specs.Prelude.{is_ok}
use Rattle.test_support.specs.Wires.{told_by_wire, history_in}
use Rattle.test_support.proofs.WireTurns.{failed-unseen, unseen-kept}
use Rattle.test_support.proofs.memory_queue.MemoryQueue.take.Goals as goal

pub returns-else-is_ok-clause-seen : goal.returns-else-is_ok-clause-seen
returns-else-is_ok-clause-seen g c = λ shown.
    let failed : is_ok c.receive-received.result ≡ false = sym c.is_ok.ensures.value ∙ c.if-is_ok.false in
    let wire = c.args.self.now.wire in
    rw failed (failed-unseen (drop wire.begun wire.turns.items) (told_by_wire wire) (Some (told_by_wire c.receive-received.new.self)) _
    c.receive-received.new.room refl c.receive-received.ensures.turns failed shown)

pub returns-else-is_ok-clause-history : goal.returns-else-is_ok-clause-history
returns-else-is_ok-clause-history g c = unseen-kept (history_in c.args.self.now.log) _ (λ shown.
    let failed : is_ok c.receive-received.result ≡ false = sym c.is_ok.ensures.value ∙ c.if-is_ok.false in
    let wire = c.args.self.now.wire in
    failed-unseen (drop wire.begun wire.turns.items) (told_by_wire wire) (Some (told_by_wire c.receive-received.new.self)) _
    c.receive-received.new.room refl c.receive-received.ensures.turns failed shown)
