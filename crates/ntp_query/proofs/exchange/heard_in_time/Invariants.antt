use Rattle.std.proofs.Common.{◌≡◌}
use Rattle.ntp_query.proofs.Hearing.{Goes}
use Rattle.ntp_query.proofs.exchange.heard_in_time.Given as goal

abbrev pub invariant-loop-received : goal.invariant-loop-received
invariant-loop-received g l = record {
  asker : l.asker ≡ l.fn.asker;
  sent : g.L.Link.sent l.link ≡ g.L.Link.sent l.fn.link;
  goes : Goes l.fn.asker (g.L.Link.coming l.fn.link) (g.L.Link.coming l.link) l.latest;
}

abbrev pub decreases-loop-received : goal.decreases-loop-received
decreases-loop-received g l = g.L.Link.most l.link
