use Rattle.labntp_jobs.proofs.{Matches.asked-match, Taking.basic-met, Taking.interleaved-met}
use Rattle.labntp_jobs.proofs.laws.a_time_reply_is_a_sample.Goals as goal

pub returns-clause-asked : goal.returns-clause-asked
returns-clause-asked c = asked-match

pub returns-clause-basic : goal.returns-clause-basic
returns-clause-basic c = λ client q past o reply saved at waits. basic-met client q past o at waits reply saved

pub returns-clause-interleaved : goal.returns-clause-interleaved
returns-clause-interleaved c =
    λ client q past o reply saved at carried found waits. interleaved-met client q past o at waits reply saved carried found
