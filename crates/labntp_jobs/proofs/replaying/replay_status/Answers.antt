use Rattle.std.proofs.Common.{inl, inr, ◌∙◌}
use Rattle.std.proofs.lemmas.Option.{IfSome_then}
use Rattle.labntp_jobs.proofs.replaying.replay_status.Goals as goal

pub returns-in-Ok-clause-ends : goal.returns-in-Ok-clause-ends
returns-in-Ok-clause-ends g c =
    IfSome_then (g.R.Read.remaining c.args.reader.now.inner) c.in-Ok.ensures.ok (λ text h. (h.0, inl (c.code.ensures, h.1, h.2), h.3))

pub returns-in-Err-clause-ends : goal.returns-in-Err-clause-ends
returns-in-Err-clause-ends g c =
    IfSome_then (g.R.Read.remaining c.args.reader.now.inner) c.in-Err.ensures.stopped
    (λ text h. (h.0, inr (c.in-Err.fault, c.code-in-Err.ensures ∙ c.tell.ensures, h.1), h.2))
