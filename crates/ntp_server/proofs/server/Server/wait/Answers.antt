use Rattle.std.proofs.Common.{rules, ap, refl, sym, subst, arith, length}
use Rattle.ntp_port.specs.{declared.port.PortCounts.PortCounts, Port.CountsMore, Port.DropsAny}
use Rattle.ntp_port.proofs.PublicLaws.{DropsAny-none, DropsAny-append, Receives-after}
use Rattle.ntp_server.proofs.Looking.{Waits-none, Waits-more, Waits-port}
use Rattle.ntp_server.proofs.server.Server.wait.Goals as goal

pub loop-wait-init : goal.loop-wait-init
loop-wait-init g c = record { port = DropsAny-none _ _ _; counts = search rules; waits = Waits-none _ _ _ _ refl }

pub loop-wait-preserved : goal.loop-wait-preserved
loop-wait-preserved g c =
    let same = ap g.P.Port.counts c.look.ensures.port in
    let waited = c.in_default.ensures.counts in
    record {
      port = subst (λ port. DropsAny g.P.Port.may_drop (g.P.Port.counts c.args.self.now.port).dropped (g.P.Port.counts port).dropped
          (g.P.Port.told c.args.self.now.port) (g.P.Port.told port)) (sym c.look.ensures.port)
          (DropsAny-append _ _ _ _ _ _ _ c.loop-wait.invariant.port c.in_default.ensures.nothing.1);
      counts = (
        omega (arith, ap (λ (k : PortCounts). k.failed_receives) same, waited.1.0, c.loop-wait.invariant.counts.0),
        omega (arith, ap (λ (k : PortCounts). k.failed_sends) same, waited.1.1, c.loop-wait.invariant.counts.1),
      );
      waits = Waits-more _ _ _ g.Q.Reporter.shown _ _ _ _ _ _ _ _ _ c.in_default.ensures.nothing.0 c.loop-wait.invariant.waits c.look.ensures.looks
          (subst (λ (k : PortCounts). CountsMore (g.P.Port.counts c.loop-wait.self.port).idle_waits k.idle_waits 1) (sym same) waited.0)
          c.look.ensures.reference c.tend.ensures c.report.ensures.shown;
    }

pub returns-in-Some-clause-turns : goal.returns-in-Some-clause-turns
returns-in-Some-clause-turns g c = Receives-after _ _ _ _ _ _ _ _ _ c.loop-wait.invariant.port c.in-Some.ensures.turns

pub returns-in-Some-clause-waits : goal.returns-in-Some-clause-waits
returns-in-Some-clause-waits g c =
    let w = c.loop-wait.invariant.waits.0 in
    Waits-port _ _ _ _ _ _ w (subst (λ n. CountsMore (g.P.Port.counts c.args.self.now.port).idle_waits n (length w.rounds))
    (sym c.in-Some.ensures.counts.0) w.waited)

pub returns-clause-turns : goal.returns-clause-turns
returns-clause-turns g c = Receives-after _ _ _ _ _ _ _ _ _ c.loop-wait.invariant.port c.receive.ensures.turns

-- a bounded number of waits is not counted
pub returns-clause-waits : goal.returns-clause-waits
returns-clause-waits g c =
    let w = c.loop-wait.invariant.waits.0 in
    Waits-port _ _ _ _ _ _ w (λ below. absurd (omega (arith, below, c.loop-wait.invariant.waits.1, c.loop-wait-test.false)))
