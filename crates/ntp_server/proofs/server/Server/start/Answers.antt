use Rattle.std.proofs.Common.{refl, ◌∙◌, arith}
use Rattle.ntp_server.proofs.Looking.{Starting-none, Starting-more, Starts-nothing, Starts-all}
use Rattle.ntp_server.proofs.server.Server.start.Goals as goal

pub loop-look-init : goal.loop-look-init
loop-look-init g c = record { port = refl; reference = refl; starting = Starting-none _ c.args.self.now }

pub returns-then-not-look-clause-port : goal.returns-then-not-look-clause-port
returns-then-not-look-clause-port g c = c.look.ensures.port ∙ c.loop-look.invariant.port

pub returns-then-not-look-clause-reference : goal.returns-then-not-look-clause-reference
returns-then-not-look-clause-reference g c = c.look.ensures.reference ∙ c.loop-look.invariant.reference

pub returns-then-not-look-clause-starts : goal.returns-then-not-look-clause-starts
returns-then-not-look-clause-starts g c =
    Starts-nothing _ _ _ _ _ c.loop-look.invariant.starting c.if-not-look.ensures.looks

pub loop-look-preserved : goal.loop-look-preserved
loop-look-preserved g c = record {
  port = c.look.ensures.port ∙ c.loop-look.invariant.port;
  reference = c.look.ensures.reference ∙ c.loop-look.invariant.reference;
  starting = Starting-more _ _ _ _ _ c.loop-look.invariant.starting c.if-not-look.ensures.looks;
}

pub returns-clause-port : goal.returns-clause-port
returns-clause-port g c = c.loop-look.invariant.port

pub returns-clause-reference : goal.returns-clause-reference
returns-clause-reference g c = c.loop-look.invariant.reference

pub returns-clause-starts : goal.returns-clause-starts
returns-clause-starts g c = Starts-all _ _ _ c.loop-look._look c.loop-look.invariant.starting (omega arith)
