-- The laws of this crate that the proofs of other crates cite, each passed on from the module that proves it.

-- pasts that leave the same answer a datagram alike, and leave the same afterwards
pub use Rattle.ntp_reply.proofs.ShortPasts.{datagram-alike}
-- pasts that leave the same note a departure alike, and leave the same afterwards
pub use Rattle.ntp_reply.proofs.KeptExchanges.{departure-alike}
-- what is kept of a past that begins is a new customer
pub use Rattle.ntp_reply.proofs.KeptExchanges.{short-new}
-- what stays where an exchange is spent stays where the match of a request is used
pub use Rattle.ntp_reply.proofs.KeptExchanges.{kept-with_match_used}
-- after a time reply the recent exchanges of all are those of the recent ones
pub use Rattle.ntp_reply.proofs.KeptExchanges.{recent-time}
-- no exchanges are saved exchanges
pub use Rattle.ntp_reply.proofs.ApartExchanges.{AreSaved-none}
-- the recent exchanges of a past stay saved exchanges after a datagram
pub use Rattle.ntp_reply.proofs.ApartExchanges.{AreSaved-after_kind}
-- the recent exchanges of a past stay saved exchanges after a departure
pub use Rattle.ntp_reply.proofs.ApartExchanges.{AreSaved-after_departure}
-- the exchange that a request asks about is a saved one
pub use Rattle.ntp_reply.proofs.ApartExchanges.{matched-saved}
-- a basic reply has two stamps that differ
pub use Rattle.ntp_reply.proofs.DistinctStamps.{basic-distinct}
-- a time reply has two stamps that differ
pub use Rattle.ntp_reply.proofs.DistinctStamps.{time-distinct}
-- a SHA-1 digest has 20 octets
pub use Rattle.ntp_reply.proofs.ReplyLengths.{length-sha1}
