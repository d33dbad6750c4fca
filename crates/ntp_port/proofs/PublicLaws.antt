-- The laws of this crate that the proofs of other crates cite, each passed on from the module that proves it.

-- a count that stays goes on by none
pub use Rattle.ntp_port.proofs.Dropping.{CountsMore-nil}
-- a count that goes on twice goes on by both
pub use Rattle.ntp_port.proofs.Dropping.{CountsMore-append}
-- a port that stays as it is dropped nothing
pub use Rattle.ntp_port.proofs.Dropping.{DropsAny-none}
-- a port that dropped datagrams twice dropped both
pub use Rattle.ntp_port.proofs.Dropping.{DropsAny-append}
-- what is received behind dropped datagrams is received
pub use Rattle.ntp_port.proofs.Dropping.{Receives-after}
-- a turn that was made of what was received
pub use Rattle.ntp_port.proofs.Taking.{TakesTurn}
-- what is received and answered makes a turn
pub use Rattle.ntp_port.proofs.Taking.{takes-turn}
-- a port that stays as it is made no turns
pub use Rattle.ntp_port.proofs.ManyTurns.{Makes-nil}
-- a port that made turns twice made both
pub use Rattle.ntp_port.proofs.ManyTurns.{Makes-append}
-- at most one call of a turn fails
pub use Rattle.ntp_port.proofs.ManyTurns.{Makes-few}
-- one thing is counted once at most
pub use Rattle.ntp_port.proofs.Counting.{at-most-one}
