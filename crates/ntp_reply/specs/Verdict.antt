-- What a datagram is answered, and what it leaves of the life of the address from which it came.
use Rattle.std.specs.Prelude.{ℕ, Bool, false, List, ◌++◌, Option, Some, None, is_some, option_map, length, ◌+◌, ◌==◌, nat_lt, if◌then◌else◌}
use Rattle.std.specs.Option.{option_map_or}
use Rattle.ntp_packet.specs.{Moment.window_of, Header.HeaderFields, Header.header_octets, Tail.tail_octets, Request.RequestValue}
use Rattle.ntp_customer.specs.{Tally.count_in, declared.slot.Slot.Slot, Customer.budget_of}
use Rattle.ntp_mac.specs.{Key.SymmetricKey, Mac.nak_octets}
use Rattle.ntp_customer.specs.Past.{Past, queries_in, with_refusal, with_query}
use Rattle.ntp_reply.specs.{Life.Life, Life.recent_of, declared.kiss.Kiss.TheVariants.Rate, declared.kiss.Kiss.TheVariants.Deny}
use Rattle.ntp_reply.specs.{declared.occasion.Occasion.Occasion, declared.answers.SignedReply.SignedReply, declared.answers.Answer.Answer}
use Rattle.ntp_reply.specs.Exchanged.{matched, stamps_of, after_time}
use Rattle.ntp_reply.specs.Kind.{Kind, PassedOver, RefusedByDeny, RefusedByNak, Signed, kind_of}
use Rattle.ntp_reply.specs.Replies.{new_stamps, basic_fields, time_fields, kiss_fields, sealed}
use Rattle.ntp_reply.specs.declared.answers.Answer.TheVariants as answer
use Rattle.ntp_reply.specs.declared.answers.Reason.TheVariants as reason

-- the window of an occasion: that of the receipt (profile)
abbrev pub window_at : Occasion → ℕ
window_at o = window_of o.receipt

-- how many refusals of a window are sent (profile)
abbrev pub refusals_sent : ℕ
refusals_sent = 4

-- a refusal, which is sent where few enough of the newest ones before it lie in its window (profile)
abbrev pub refused : Past → Occasion → Answer → Answer
refused past o reply = if nat_lt (count_in past.refusals (window_at o)) refusals_sent then reply else answer.Silent reason.Muted

-- a reply to a signed query, signed with its key: interleaved, or not
abbrev pub signed_reply : SymmetricKey → ℕ → Bool → HeaderFields → SignedReply
signed_reply key number interleaved fields =
    record { octets = sealed key number fields; number = number; is_interleaved = interleaved }

-- a time reply, interleaved where an exchange is matched, and beside it its receive stamp (RFC 5905, 9.2; profile, after RFC 9769)
abbrev pub timed : SymmetricKey → ℕ → Occasion → HeaderFields → List Slot → Answer
timed key number o request saved =
    let stamps = new_stamps o saved in let found = matched saved request in
    answer.Time (signed_reply key number (is_some found) (time_fields o request found stamps)) stamps.receive

-- how many of the newest signed queries of a past lie in the window of an occasion (profile)
abbrev pub query_count : Past → Occasion → ℕ
query_count past o = count_in (queries_in past) (window_at o)

-- a signed query: where fewer lie before it than the budget, the time; where just as many do, RATE, signed; else nothing (profile; the kiss:
-- RFC 5905, 7.4)
abbrev pub signed_answer : Past → Occasion → SymmetricKey → ℕ → HeaderFields → Answer
signed_answer past o key number request =
    if nat_lt (query_count past o) (budget_of past) then timed key number o request (recent_of past)
    else if query_count past o == budget_of past then answer.Rate (signed_reply key number false (kiss_fields Rate request))
    else answer.Silent reason.OverBudget

-- the past after a signed query: it is counted, and a time reply is one exchange more (profile)
abbrev pub after_signed : Past → Occasion → HeaderFields → Past
after_signed past o request =
    let counted = with_query past (window_at o) in
    if nat_lt (query_count past o) (budget_of past) then after_time counted o request else counted

-- the answer to a datagram of a kind, with a past: a DENY is its header alone (RFC 5905, 7.4; profile), and a crypto-NAK has four zeros in
-- the place of the MAC (RFC 5905); which kind gets which: profile
abbrev pub kind_answer : Past → Occasion → Kind → Answer
kind_answer past o (PassedOver why) = answer.Silent why
kind_answer past o (RefusedByDeny request) = refused past o (answer.Deny (header_octets (kiss_fields Deny request)))
kind_answer past o (RefusedByNak request) = refused past o (answer.Nak (header_octets (basic_fields o request (stamps_of past o)) ++ nak_octets))
kind_answer past o (Signed key number request) = signed_answer past o key number request

-- the past after a datagram of a kind: refusals and signed queries are counted, whether they were answered or not; a crypto-NAK's
-- stamps are not saved (profile)
abbrev pub after_kind : Past → Occasion → Kind → Past
after_kind past o (PassedOver why) = past
after_kind past o (Signed key number request) = after_signed past o request
after_kind past o refusal = with_refusal past (window_at o)

-- the answer to a datagram: silence where its address was never enrolled, and its octets are not looked at (profile)
abbrev pub verdict : Life → Occasion → List ℕ → Answer
verdict None o octets = answer.Silent reason.Unregistered
verdict (Some past) o octets = kind_answer past o (kind_of past octets)

-- the life after a datagram (profile)
abbrev pub after_datagram : Life → Occasion → List ℕ → Life
after_datagram life o octets = option_map (λ past. after_kind past o (kind_of past octets)) life

-- the reply of an answer
abbrev pub reply_in : Answer → Option (List ℕ)
reply_in (answer.Time reply saved) = Some reply.octets
reply_in (answer.Rate reply) = Some reply.octets
reply_in (answer.Deny reply) = Some reply
reply_in (answer.Nak reply) = Some reply
reply_in (answer.Silent why) = None

-- how many octets it has
abbrev pub reply_length : Answer → ℕ
reply_length a = option_map_or length (reply_in a) 0

-- how many octets a request has
abbrev pub request_length : RequestValue → ℕ
request_length r = length r.signed + length (tail_octets r.tail)

-- how many octets the reply of an answer has at most: a header alone, with four zeros, or with a key number and a digest (profile)
abbrev pub most_octets : Answer → ℕ
most_octets (answer.Time reply saved) = 72
most_octets (answer.Rate reply) = 72
most_octets (answer.Deny reply) = 48
most_octets (answer.Nak reply) = 52
most_octets (answer.Silent why) = 0
