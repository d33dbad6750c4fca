use Rattle.ntp_port.proofs.Passing.{passes-some, passes-none}
use Rattle.ntp_port.proofs.fresh_port.FreshPortTimedPort.receive_in_time.Goals as goal

pub returns-clause-turns : goal.returns-clause-turns
returns-clause-turns g c = let passes = c.receive_fresh.ensures.fresh.0 in passes-some _ _ _ _ passes

pub returns-clause-nothing : goal.returns-clause-nothing
returns-clause-nothing g c = let passes = c.receive_fresh.ensures.fresh.0 in passes-none _ _ _ _ passes
