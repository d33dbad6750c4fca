-- The laws of this crate that the proofs of other crates cite, each passed on from the module that proves it.

-- while a request waits, octets are taken for the packet that they are read as
pub use Rattle.ntp_client.proofs.Takings.{read-taken}
-- a server's reply to the request is taken for what its tail says
pub use Rattle.ntp_client.proofs.Takings.{paired-taken}
-- a signed reply is taken for what its header says
pub use Rattle.ntp_client.proofs.Takings.{signed-taken}
-- a time reply is taken for a sample
pub use Rattle.ntp_client.proofs.Authentic.{time-taken}
-- octets that are taken for a sample are read as a packet
pub use Rattle.ntp_client.proofs.Samples.{sample-read}
-- a reply whose origin is the request's transmit stamp is paired with the request
pub use Rattle.ntp_client.proofs.Pairings.{basic-pairing}
-- a reply whose origin is the arrival of the earlier exchange is paired with that
pub use Rattle.ntp_client.proofs.Pairings.{interleaved-pairing}
