use Rattle.labntp_jobs.proofs.{Carried.carried-after, Carried.saved-after, Departures.departure-found}
use Rattle.labntp_jobs.proofs.laws.the_next_request_asks_about_the_exchange.Goals as goal

pub returns-clause-carried : goal.returns-clause-carried
returns-clause-carried c =
    λ client q past o reply saved at s waits shares shown fits answered.
    carried-after client q past o reply saved waits shares answered at s shown fits

pub returns-clause-saved : goal.returns-clause-saved
returns-clause-saved c = saved-after

pub returns-clause-departed : goal.returns-clause-departed
returns-clause-departed c = λ past receive m found. departure-found receive m found past
