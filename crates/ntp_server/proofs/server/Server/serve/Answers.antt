use Rattle.std.proofs.Common.{arith, refl}
use Rattle.ntp_server.proofs.Making.{Serves-none, Serves-turn, Serves-few}
use Rattle.ntp_server.proofs.server.Server.serve.Goals as goal

pub loop-turn-init : goal.loop-turn-init
loop-turn-init g c = record { rounds = Serves-none _ _ _ _ _ _ refl c.start.ensures.port c.start.ensures.reference c.start.ensures.starts; known = λ some. absurd (omega (arith, some)) }

pub turn-requires : goal.turn-requires
turn-requires g c = omega (arith, Serves-few _ _ _ _ _ _ _ c.loop-turn.invariant.rounds, c.loop-turn-test.true, c.requires)

pub loop-turn-preserved : goal.loop-turn-preserved
loop-turn-preserved g c = record {
  rounds = Serves-turn _ _ _ _ g.Q.Reporter.shown _ _ _ _ _ _ c.loop-turn.invariant.rounds c.turn.ensures.made;
  known = λ some. c.turn.ensures.known;
}
