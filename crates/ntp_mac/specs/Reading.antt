-- The one answer to octets: the request that they are, or what is wrong with them.
use Rattle.std.specs.Prelude.{ℕ, List, Result}
use Rattle.ntp_packet.specs.{Request.RequestValue, declared.malformed.Malformed.Malformed}
use Rattle.ntp_packet.proofs.PublicLaws.{the_reading}

-- what octets are read as: the request that they are, or else the fault that they have (RFC 5905, 7.3; RFC 7822, 3; the split: profile).
-- The law `octets_are_what_they_are_read_as` says all of it, so a reader need not look into `the_reading`
unfoldable pub reading_of : List ℕ → Result RequestValue Malformed
reading_of octets = the_reading octets
