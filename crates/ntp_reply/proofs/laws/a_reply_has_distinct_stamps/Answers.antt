use Rattle.ntp_reply.proofs.DistinctStamps.{basic-distinct, time-distinct}
use Rattle.ntp_reply.proofs.laws.a_reply_has_distinct_stamps.Goals as goal

pub returns-clause-time : goal.returns-clause-time
returns-clause-time c = λ o request saved matched are member. time-distinct o saved are request matched member

pub returns-clause-nak : goal.returns-clause-nak
returns-clause-nak c = λ o request saved are. basic-distinct o saved are request
