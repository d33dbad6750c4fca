-- What is learned from the answers of the host's clock daemon.
use Rattle.std.specs.Prelude.{ℕ, List, ◌+◌, ◌-◌, ◌*◌, ◌^◌, min, unsigned_abs, Bool, false, ◌&&◌, ◌||◌, nat_lt, if◌then◌else◌, Option, Some, None, option_map, option_and_then}
use Rattle.std.specs.Int.{div_ceil}
use Rattle.ntp_packet.specs.{declared.stamp.Stamp.Stamp, declared.stamp.Short.Short, Header.HeaderFields, Header.no_stamp}
use Rattle.ntp_mac.specs.Key.{SymmetricKey}
use Rattle.ntp_client.specs.{declared.exchange.Outstanding.Outstanding, State.ClientState, State.new_client, Query.transmit_of}
use Rattle.ntp_client.specs.{declared.sample.Sample.Sample, Sample.offset_twice, Sample.delay, declared.taken.Taken.Taken}
use Rattle.ntp_client.specs.{declared.answer.ClockAnswer.ClockAnswer, declared.limits.ClockLimits.ClockLimits}
use Rattle.ntp_client.specs.{declared.reading.Reading.Reading, declared.watch.ClockWatch.ClockWatch, InForce.is_read}
use Rattle.ntp_client.specs.declared.taken.Taken.TheVariants as taken
use Rattle.ntp_client.specs.declared.taken.Distrust.TheVariants as distrust
use Rattle.ntp_client.specs.{Taking.header_taken, Taking.after_taken}
use Rattle.ntp_client.specs.Watching.{new_watch, is_set_since, after_set, shows_update}

-- what a follower of the host's clock daemon knows: the client that asks it, the limits, how the host's clock was set, the last answer
-- with what it rests on, and when the daemon last asked for fewer questions; the code's `Follower` hides them (profile)
pub record FollowerState : Type 0 where
  pub client : ClientState
  pub limits : ClockLimits
  pub watch : ClockWatch
  pub learned : Option ClockAnswer
  pub slowed : Option ℕ

-- a follower that has asked nothing (profile)
abbrev pub new_follower : SymmetricKey → ℕ → ClockLimits → FollowerState
new_follower key number limits =
    record { client = new_client key number; limits = limits; watch = new_watch; learned = None; slowed = None }

-- a follower that has looked at the host's clocks: where they show that the host's was set, no question waits any more (profile)
abbrev pub looked : FollowerState → Reading → FollowerState
looked f now =
    if is_set_since f.watch.seen now then record f { client = record f.client { outstanding = None; sampled = None }; watch = after_set now }
    else f

-- what was learned rests on a reading from before the host's clock was last seen to be set (profile)
abbrev pub rests_before : Option ClockAnswer → Option Reading → Bool
rests_before (Some a) (Some set) = nat_lt a.base.ticks set.ticks
rests_before learned set = false

-- after a reading the clocks have to be read anew: it is one, and either it shows that the host's was set, or what was learned rests on a
-- reading from before that was last seen (profile)
abbrev pub has_to_read_anew : FollowerState → Reading → Bool
has_to_read_anew f shown = is_read shown.clock && (is_set_since f.watch.seen shown || rests_before f.learned f.watch.set)

-- the question that a follower asks at a reading: a basic one, which carries no earlier exchange (profile)
abbrev pub question : Reading → Outstanding
question now = record { transmit = transmit_of None now.clock; earlier = None }

-- the follower that has looked at the clocks and has asked it (profile)
abbrev pub asked : FollowerState → Reading → FollowerState
asked f now = record (looked f now) {
  client = record f.client { outstanding = Some (question now); sampled = None };
  watch = record (looked f now).watch { seen = Some now };
}

-- the root delay by way of a time reply: the one that it tells, and the size of the exchange's delay, in units of 2^-16 seconds and rounded
-- up; to the most that a packet can tell (RFC 5905, 11.2; rounded up, to the most: profile)
abbrev pub root_delay_by : HeaderFields → Sample → Short
root_delay_by h s = record { 0 = min (2 ^ 32 - 1) (h.clock.root_delay.0 + div_ceil (unsigned_abs (delay s)) (2 ^ 16)) }

-- the answer that a time reply is to the question of a reading: the state of its clock that it tells, with that root delay, and what it
-- rests on (RFC 5905, 7.3; rests on: profile)
abbrev pub clock_answer : HeaderFields → Sample → Reading → Reading → ClockAnswer
clock_answer h sample question base = record {
  state = record h.clock { root_delay = root_delay_by h sample };
  offset_twice = offset_twice sample;
  sent = h.transmit;
  ticks = question.ticks;
  base = base;
}

-- what a time reply to the question of a reading rests on: that reading, where it shows an update; else what the last answer does
-- (profile)
abbrev pub base_of : ClockWatch → Option ClockAnswer → HeaderFields → Reading → Option Reading
base_of w learned h question = if shows_update w h.clock.reference h.transmit then Some question else option_map (λ a. a.base) learned

-- what is learned of a time reply to the last question: the answer that it is, where it rests on something (profile)
abbrev pub learned_of : ClockWatch → Option ClockAnswer → HeaderFields → Sample → Option ClockAnswer
learned_of w learned h sample =
    option_and_then (λ question. option_map (clock_answer h sample question) (base_of w learned h question)) w.seen

-- what is learned after a packet with this header was taken for something: the answer of a sample; nothing, where an authentic reply
-- says that its clock is unsynchronised; and all else changes nothing (profile)
abbrev pub learned_after : ClockWatch → Option ClockAnswer → Option HeaderFields → Taken → Option ClockAnswer
learned_after w learned header (taken.Sample sample) = option_and_then (λ h. learned_of w learned h sample) header
learned_after w learned header (taken.Refused distrust.Unsynchronised) = None
learned_after w learned header _ = learned

-- the reference time that the daemon told last: a clock that is unsynchronised has none (RFC 5905, 7.3; profile)
abbrev pub told_after : Option Stamp → Option HeaderFields → Taken → Option Stamp
told_after told header (taken.Sample sample) = option_map (λ h. h.clock.reference) header
told_after told header (taken.Refused distrust.Unsynchronised) = Some no_stamp
told_after told header _ = told

-- when the daemon last asked for fewer questions, by the kiss RATE (RFC 5905, 7.4; profile)
abbrev pub slowed_after : Option ℕ → ℕ → Taken → Option ℕ
slowed_after slowed ticks taken.Rate = Some ticks
slowed_after slowed ticks _ = slowed

-- the follower that has taken octets for something at a reading, once it has looked at the clocks (profile)
abbrev pub took : FollowerState → List ℕ → Reading → Taken → FollowerState
took f octets now taken = record f {
  client = after_taken f.client octets now.clock taken;
  watch = record f.watch { told = told_after f.watch.told (header_taken f.client octets) taken };
  learned = learned_after f.watch f.learned (header_taken f.client octets) taken;
  slowed = slowed_after f.slowed now.ticks taken;
}

-- how long after a question the next one is due, in nanoseconds: a second, and eight for an hour after a RATE (RFC 5905, 7.4; profile)
abbrev pub period : Option ℕ → ℕ → ℕ
period None ticks = 10 ^ 9
period (Some slowed) ticks = if nat_lt (ticks - slowed) (3600 * 10 ^ 9) then 8 * 10 ^ 9 else 10 ^ 9
