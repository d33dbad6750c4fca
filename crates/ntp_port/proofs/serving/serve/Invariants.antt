use Rattle.std.proofs.Common.{◌≤◌, ◌+◌}
use Rattle.ntp_port.specs.{Port.failed_calls, Serving.ServeMakes}
use Rattle.ntp_port.proofs.serving.serve.Given as goal

abbrev pub invariant-loop-turn : goal.invariant-loop-turn
invariant-loop-turn g l = record {
  failures : failed_calls (g.P.Port.counts l.port) ≤ failed_calls (g.P.Port.counts l.fn.port) + l._turn;
  arrivals : l.served.arrivals ≤ l._turn;
  sent : l.served.sent ≤ l._turn;
  departed : l.served.departed ≤ l._turn;
  makes : ServeMakes g.row.A.Denot l.reference g.P.Port.may_drop l._turn (g.P.Port.told l.fn.port) (g.P.Port.told l.port)
      (g.P.Port.counts l.fn.port) (g.P.Port.counts l.port) l.fn.service l.service l.served;
}
