use Rattle.labntp_jobs.proofs.Taking.{rate-met, nak-met, deny-met, revoked-met, unsynchronised-met}
use Rattle.labntp_jobs.proofs.laws.other_replies_are_taken_for_what_they_are.Goals as goal

pub returns-clause-rate : goal.returns-clause-rate
returns-clause-rate c = λ client q past o reply at waits. rate-met client q past o at waits reply

pub returns-clause-nak : goal.returns-clause-nak
returns-clause-nak c = nak-met

pub returns-clause-deny : goal.returns-clause-deny
returns-clause-deny c = deny-met

pub returns-clause-revoked : goal.returns-clause-revoked
returns-clause-revoked c = revoked-met

pub returns-clause-unsynchronised : goal.returns-clause-unsynchronised
returns-clause-unsynchronised c = λ client q past o reply saved at waits. unsynchronised-met client q past o at waits reply saved
