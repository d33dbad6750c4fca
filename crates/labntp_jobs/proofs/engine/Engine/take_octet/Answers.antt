use Rattle.std.proofs.Common.{refl, rules, [], ap, ◌+◌}
use Rattle.std.proofs.{KnownBytes.Appends-nil, lemmas.Result.err_from_is_err_and}
use Rattle.labntp_jobs.proofs.Feeding.{Fed-octet, Fed-line, Stops-line, Stops-long, Stops-memory}
use Rattle.labntp_jobs.proofs.engine.Engine.take_octet.Goals as goal

pub returns-in_err-answer-clause-err : goal.returns-in_err-answer-clause-err
returns-in_err-answer-clause-err g c =
    let h = c.in_err-answer.ensures.err in
    let p = err_from_is_err_and c.from_residual.result c.from_residual.ensures.1 in
    rw (p.1, p.2) (h.0, Stops-line _ _ _ _ _ c.if-octet-eq10.true h.1 c.answer.ensures.same, h.2)

pub returns-then-octet-eq10-clause-ok : goal.returns-then-octet-eq10-clause-ok
returns-then-octet-eq10-clause-ok g c =
    let h = c.in_ok-answer.ensures.ok in
    (h.0, Fed-line _ _ _ _ c.if-octet-eq10.true h.1 c.clear.ensures.items (ap (λ n. n + 1) c.answer.ensures.same), h.2)

pub returns-then-len-eq-MOST_LINE_OCTETS-clause-err : goal.returns-then-len-eq-MOST_LINE_OCTETS-clause-err
returns-then-len-eq-MOST_LINE_OCTETS-clause-err g c = ([], Stops-long _ _ c.if-octet-eq10.false (search rules), Appends-nil _)

pub returns-in-Ok-clause-ok : goal.returns-in-Ok-clause-ok
returns-in-Ok-clause-ok g c = ([], Fed-octet _ _ _ refl c.in-Ok.ensures.items refl, Appends-nil _)

pub returns-in-Err-clause-err : goal.returns-in-Err-clause-err
returns-in-Err-clause-err g c = ([], Stops-memory _ _ _ refl, Appends-nil _)
