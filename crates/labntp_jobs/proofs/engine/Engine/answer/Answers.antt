use Rattle.std.proofs.Common.{[]}
use Rattle.std.proofs.{KnownBytes.Appends-nil, lemmas.Result.on_ok_weaker, lemmas.Result.IfErr-weaker}
use Rattle.labntp_jobs.proofs.LinesReplayed.{Answers-passed, Answers-event, Halts-event}
use Rattle.labntp_jobs.proofs.engine.Engine.answer.Goals as goal

pub returns-in-Err-clause-past_reading : goal.returns-in-Err-clause-past_reading
returns-in-Err-clause-past_reading g c = c.in-Err.ensures.past_reading _

pub returns-in-Ok-None-clause-ok : goal.returns-in-Ok-None-clause-ok
returns-in-Ok-None-clause-ok g c =
    let line = rw c.deref.ensures.value at (rw c.in-Ok-None.field-0-is at c.in-Ok-None.ensures.ok) in
    ([], Answers-passed _ _ line.0 line.1, Appends-nil _)

pub returns-in-Ok-clause-ok : goal.returns-in-Ok-clause-ok
returns-in-Ok-clause-ok g c =
    let line = rw c.deref.ensures.value at (rw c.in-Ok-Some.field-0-is at c.in-Ok-Some.ensures.ok) in
    let text = rw c.in-Ok.ensures at (rw c.as_bytes.ensures.value at c.write_all.ensures.ok) in
    on_ok_weaker c.write_all.result
    (λ wrote. (_, Answers-event _ _ _ _ _ line.0 line.1 line.2 c.apply-outcome.ensures, wrote)) text

pub returns-in-Ok-clause-err : goal.returns-in-Ok-clause-err
returns-in-Ok-clause-err g c =
    let line = rw c.deref.ensures.value at (rw c.in-Ok-Some.field-0-is at c.in-Ok-Some.ensures.ok) in
    let text = rw c.in-Ok.ensures at (rw c.as_bytes.ensures.value at c.write_all.ensures.err) in
    IfErr-weaker c.write_all.result _ _
    (λ kind h. (h.0, Halts-event kind _ _ _ _ _ _ line.0 line.1 line.2 c.apply-outcome.ensures h.1, h.2)) text
