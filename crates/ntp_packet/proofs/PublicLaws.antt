-- The laws of this crate that the proofs of other crates cite, each passed on from the module that proves it.

-- numbers that octets can be
pub use Rattle.ntp_packet.proofs.Octets.{AreOctets}
-- numbers below 256 are octets
pub use Rattle.ntp_packet.proofs.Octets.{AreOctets-all}
-- the low eight bits of each number; octets are their own
pub use Rattle.ntp_packet.proofs.TheReading.{low}
-- those are octets
pub use Rattle.ntp_packet.proofs.TheReading.{AreOctets-low}
-- a list of four is its cells, one after another
pub use Rattle.ntp_packet.proofs.Parts.{four-cells}
-- a fresh stamp is the first free one: one of the first length avoid + 2 is free
pub use Rattle.ntp_packet.proofs.Freshness.{IsFresh-fresh}
-- no other stamp is the first free one
pub use Rattle.ntp_packet.proofs.Freshness.{fresh_from_IsFresh}
-- a fresh stamp is not 0
pub use Rattle.ntp_packet.proofs.Freshness.{fresh-nonzero}
-- a fresh stamp is none of those to avoid
pub use Rattle.ntp_packet.proofs.Freshness.{fresh-apart}
-- a fresh stamp has 64 bits
pub use Rattle.ntp_packet.proofs.Freshness.{fresh-below}
-- a free stamp is not 0
pub use Rattle.ntp_packet.proofs.Freshness.{free-nonzero}
-- a free stamp is none of those to avoid
pub use Rattle.ntp_packet.proofs.Freshness.{free-apart}
-- a stamp that is not 0 and none of those to avoid is free
pub use Rattle.ntp_packet.proofs.Freshness.{free-from_apart}
-- a header has 48 octets
pub use Rattle.ntp_packet.proofs.Readings.{length_header_octets}
-- what is signed has the octets of the header and of the extension fields
pub use Rattle.ntp_packet.proofs.Headers.{length-signed}
-- a tail has at most 24 octets
pub use Rattle.ntp_packet.proofs.Tails.{length-tail}
-- octets have one reading and no fault, or one fault and no reading
pub use Rattle.ntp_packet.proofs.OneAnswer.{HasOneReading, HasOneFault}
-- all octets do
pub use Rattle.ntp_packet.proofs.Answered.{one-answer}
-- that reading or that fault
pub use Rattle.ntp_packet.proofs.TheReading.{the_one}
-- the one that these octets have
pub use Rattle.ntp_packet.proofs.TheReading.{the_reading}
-- a later case decides only where the condition before it holds
pub use Rattle.ntp_packet.proofs.FirstCase.{after-provided}
-- a later case decides only where the option before it has a value
pub use Rattle.ntp_packet.proofs.FirstCase.{after-ok_or}
-- a later case decides only where the result before it is no error
pub use Rattle.ntp_packet.proofs.FirstCase.{after-map_err}
