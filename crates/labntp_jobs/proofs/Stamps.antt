-- The new stamps of a reply are of known time, and have 64 bits.
use Rattle.std.proofs.Common.{◌≢◌, ◌^◌, ◌<◌, [], ◌∷◌, ◌++◌, length, arith}
use Rattle.std.proofs.lemmas.List.{length-append, length-map}
use Rattle.ntp_packet.proofs.PublicLaws.{fresh-nonzero, fresh-below}
use Rattle.ntp_customer.specs.{Exchanges.receives, Exchanges.all_stamps, Past.Past}
use Rattle.ntp_customer.proofs.PublicLaws.{length-recent}
use Rattle.ntp_reply.specs.{declared.occasion.Occasion.Occasion, Life.recent_of, Exchanged.stamps_of}

module _ (past : Past) (o : Occasion) where
  -- few stamps are avoided
  pub receive-few : length (all_stamps (recent_of past)) < 2 ^ 63
  receive-few = grind (arith, length-append, length-map, length-recent)

  transmit-few : length (receives (recent_of past) ++ (stamps_of past o).receive ∷ []) < 2 ^ 63
  transmit-few = grind (arith, length-append, length-map, length-recent)

  pub receive-known : (stamps_of past o).receive.0 ≢ 0
  receive-known = fresh-nonzero o.receipt.stamp (all_stamps (recent_of past)) receive-few

  pub receive-fits : (stamps_of past o).receive.0 < 2 ^ 64
  receive-fits = fresh-below o.receipt.stamp (all_stamps (recent_of past)) receive-few

  pub transmit-known : (stamps_of past o).transmit.0 ≢ 0
  transmit-known = fresh-nonzero o.transmit.stamp (receives (recent_of past) ++ (stamps_of past o).receive ∷ []) transmit-few

  pub transmit-fits : (stamps_of past o).transmit.0 < 2 ^ 64
  transmit-fits = fresh-below o.transmit.stamp (receives (recent_of past) ++ (stamps_of past o).receive ∷ []) transmit-few
