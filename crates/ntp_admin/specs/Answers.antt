-- The line that is printed for what an event is answered.
use Rattle.std.specs.Prelude.{ℕ, List, [], ◌∷◌, ◌++◌, codes}
use Rattle.std.specs.{Fmt.decimal, Int.w64, Int.to_be_bytes}
use Rattle.hex.specs.Hex.{encode_lower}
use Rattle.ntp_packet.specs.{declared.stamp.Stamp.Stamp, declared.malformed.Malformed.Malformed}
use Rattle.ntp_packet.specs.declared.malformed.Malformed.TheVariants as malformed
use Rattle.ntp_service.specs.{Vocabulary.refusal_word, declared.outcome.Outcome.Outcome}
use Rattle.ntp_reply.specs.{declared.answers.Answer.Answer, declared.answers.Reason.Reason}
use Rattle.ntp_reply.specs.declared.answers.Answer.TheVariants as answer
use Rattle.ntp_reply.specs.declared.answers.Reason.TheVariants as reason
use Rattle.ntp_service.specs.declared.outcome.Outcome.TheVariants as outcome

-- a stamp: 16 digits
unfoldable pub stamp_text : Stamp → List ℕ
stamp_text stamp = encode_lower (to_be_bytes w64 stamp.0)

-- why octets are no packet, with the place of the fault
abbrev pub malformed_text : Malformed → List ℕ
malformed_text malformed.Short = codes "short"
malformed_text malformed.Long = codes "long"
malformed_text (malformed.FieldShort place) = codes "field-short " ++ decimal place
malformed_text (malformed.FieldUnaligned place) = codes "field-unaligned " ++ decimal place
malformed_text (malformed.FieldPastEnd place) = codes "field-past-end " ++ decimal place
malformed_text (malformed.Rest place) = codes "rest " ++ decimal place

-- why there is no reply
abbrev pub reason_text : Reason → List ℕ
reason_text reason.Unregistered = codes "unregistered"
reason_text (reason.Malformed fault) = malformed_text fault
reason_text reason.Version = codes "version"
reason_text reason.Mode = codes "mode"
reason_text reason.Bare = codes "bare"
reason_text reason.Muted = codes "muted"
reason_text reason.OverBudget = codes "over-budget"

-- the answer to a datagram, a reply's octets in lower-case hexadecimal
abbrev pub answer_text : Answer → List ℕ
answer_text (answer.Time reply saved) = codes "time " ++ stamp_text saved ++ codes " " ++ encode_lower reply.octets
answer_text (answer.Rate reply) = codes "rate " ++ encode_lower reply.octets
answer_text (answer.Deny reply) = codes "deny " ++ encode_lower reply
answer_text (answer.Nak reply) = codes "nak " ++ encode_lower reply
answer_text (answer.Silent why) = codes "silent " ++ reason_text why

-- the end of a line
abbrev pub line_feed : List ℕ
line_feed = 10 ∷ []

-- the line of an outcome
unfoldable pub outcome_text : Outcome → List ℕ
outcome_text (outcome.Datagram answer) = answer_text answer ++ line_feed
outcome_text outcome.Noted = codes "noted" ++ line_feed
outcome_text outcome.NotNoted = codes "not-noted" ++ line_feed
outcome_text outcome.Done = codes "done" ++ line_feed
outcome_text (outcome.Refused why) = codes "refused " ++ refusal_word why ++ line_feed
