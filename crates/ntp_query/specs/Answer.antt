-- What a reply that gave a sample tells, in seconds to the nanosecond.
use Rattle.std.specs.Prelude.{ℕ, suc, Bool, ℤ, pos, negsuc, neg_ℤ, ◌+◌, ◌*◌, ◌/◌, ◌^◌}
use Rattle.ntp_packet.specs.{Header.HeaderFields, Unix.second_nanos}
use Rattle.ntp_client.specs.{declared.sample.Sample.Sample, Sample.offset_twice, Sample.delay}
use Rattle.ntp_query.specs.declared.answer.Answer.{Answer}

-- the whole number nearest to a quotient, of two as near the greater
abbrev pub nearest : ℕ → ℕ → ℕ
nearest dividend divisor = (2 * dividend + divisor) / (2 * divisor)

-- units in nanoseconds, where a second has `second` units: the nearest, and of two as near the one further from 0
abbrev pub nanos_of : ℤ → ℕ → ℤ
nanos_of (pos units) second = pos (nearest (units * second_nanos) second)
nanos_of (negsuc units) second = neg_ℤ (pos (nearest (suc units * second_nanos) second))

-- a sample, whether the reply was signed, and what its header tells of the server's clock (RFC 5905, 7.3)
abbrev pub answer_of : Sample → Bool → HeaderFields → Answer
answer_of sample signed h = record { sample = sample; signed = signed; clock = h.clock }

-- the offset of the server's clock, in nanoseconds (RFC 5905, 8)
abbrev pub offset_of : Answer → ℤ
offset_of a = nanos_of (offset_twice a.sample) (2 ^ 33)

-- the round trip delay, in nanoseconds (RFC 5905, 8)
abbrev pub delay_of : Answer → ℤ
delay_of a = nanos_of (delay a.sample) (2 ^ 32)

-- the root distance, in nanoseconds: half the root delay, and the root dispersion (RFC 5905, 11.2)
abbrev pub root_distance_of : Answer → ℤ
root_distance_of a = nanos_of (pos (a.clock.root_delay.0 + 2 * a.clock.root_dispersion.0)) (2 ^ 17)
