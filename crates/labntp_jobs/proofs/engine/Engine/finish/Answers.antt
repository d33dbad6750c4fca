use Rattle.std.proofs.Common.{rules}
use Rattle.std.proofs.lemmas.Result.{on_ok_weaker, IfErr-weaker}
use Rattle.labntp_jobs.proofs.LineFeeds.{lines_of-last}
use Rattle.labntp_jobs.proofs.engine.Engine.finish.Goals as goal

pub returns-clause-ok : goal.returns-clause-ok
returns-clause-ok g c =
    let last = lines_of-last c.args.self.now.line.items c.args.self.now.unbroken (search rules) in
    on_ok_weaker c.answer.result (λ h. (h.0, rw last h.1, h.2)) c.answer.ensures.ok

pub returns-clause-err : goal.returns-clause-err
returns-clause-err g c =
    let last = lines_of-last c.args.self.now.line.items c.args.self.now.unbroken (search rules) in
    IfErr-weaker c.answer.result _ _ (λ kind h. (h.0, rw last h.1, h.2)) c.answer.ensures.err
