-- The laws of this crate that the proofs of other crates cite, each passed on from the module that proves it.

-- octets are this request, or have this fault
pub use Rattle.ntp_mac.proofs.ReadAs.{Reads}
-- octets are what they are read as
pub use Rattle.ntp_mac.proofs.ReadAs.{Reads-reading_of}
-- they are nothing else
pub use Rattle.ntp_mac.proofs.ReadAs.{only-reading_of}
-- a result that is each request that the octets are, and each fault that they have, is what they are read as
pub use Rattle.ntp_mac.proofs.ReadAs.{answers-so}
-- the comparison of MACs says yes exactly of a signed request
pub use Rattle.ntp_mac.proofs.Signing.{is-signed}
