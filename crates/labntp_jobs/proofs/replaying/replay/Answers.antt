use Rattle.std.proofs.Common.{◌∙◌, arith, rules, take, [], ◌++◌}
use Rattle.std.proofs.KnownBytes.{Appends-nil, Appends-trans, Consumes-nil, Consumes-trans, Consumes-kept}
use Rattle.labntp_jobs.proofs.Feeding.{Fed-nil, Fed-trans, Fed-stops}
use Rattle.labntp_jobs.proofs.Whole.{last-read, whole-ok, whole-stop, whole-last, whole-read}
use Rattle.labntp_jobs.proofs.replaying.replay.Goals as goal

pub loop-turn-init : goal.loop-turn-init
loop-turn-init g c = record {
  reads = c.requires.unread;
  bound = omega (arith, c.new-engine.ensures.done);
  reader_well = c.requires.reader_well;
  writer_well = c.requires.writer_well;
  unfed = c.new-engine.ensures;
  so_far = ([], [], Fed-nil _, Consumes-nil _, Appends-nil _);
}

pub returns-in-Err-clause-stopped : goal.returns-in-Err-clause-stopped
returns-in-Err-clause-stopped g c =
    let i = c.loop-turn.invariant in let s = i.so_far in
    rw c.fault.ensures (whole-read _ _ _ _ _ _ _ i.unfed s.2 (Consumes-kept _ _ _ _ s.3 c.in-Err.ensures.none) s.4)

pub returns-clause-stopped : goal.returns-clause-stopped
returns-clause-stopped g c =
    let i = c.loop-turn.invariant in let s = i.so_far in
    rw c.fault-2.ensures (whole-read _ _ _ _ _ _ _ i.unfed s.2 s.3 s.4)

pub returns-in-Ok-finish-clause-ok : goal.returns-in-Ok-finish-clause-ok
returns-in-Ok-finish-clause-ok g c =
    let i = c.loop-turn.invariant in let s = i.so_far in let h = c.in-Ok-finish.ensures.ok in
    let last = last-read _ _ _ _ _ _ s.3 c.in-Ok-eq0.ensures.octets c.in-Ok-eq0.field-0-test c.in-Ok-eq0.ensures.end in
    whole-ok _ _ _ _ _ _ _ _ _ i.unfed s.2 last.0 last.1 h.1 (Appends-trans _ _ _ _ _ s.4 h.2)

pub returns-in-Err-finish-clause-stopped : goal.returns-in-Err-finish-clause-stopped
returns-in-Err-finish-clause-stopped g c =
    let i = c.loop-turn.invariant in let s = i.so_far in let h = c.in-Err-finish.ensures.err in
    let last = last-read _ _ _ _ _ _ s.3 c.in-Ok-eq0.ensures.octets c.in-Ok-eq0.field-0-test c.in-Ok-eq0.ensures.end in
    rw c.fault-in-Err-finish.ensures
    (whole-last _ _ _ _ _ _ _ _ _ _ i.unfed s.2 last.0 last.1 h.1 c.finish.ensures.same (Appends-trans _ _ _ _ _ s.4 h.2))

pub returns-in-Err-feed-clause-stopped : goal.returns-in-Err-feed-clause-stopped
returns-in-Err-feed-clause-stopped g c =
    let i = c.loop-turn.invariant in let s = i.so_far in let e = c.in-Err-feed.ensures.err in
    let consumed = Consumes-trans _ _ _ _ _ s.3 c.in-Ok.ensures.octets in
    let stopped = Fed-stops _ _ _ _ _ _ _ _ s.2 e.1 in
    rw c.fault-in-Err-feed.ensures (whole-stop _ _ _ _ _ _ _ _ i.unfed stopped consumed (Appends-trans _ _ _ _ _ s.4 e.2))

pub loop-turn-preserved : goal.loop-turn-preserved
loop-turn-preserved g c =
    let i = c.loop-turn.invariant in let s = i.so_far in let e = c.in-Ok-feed.ensures.ok in
    let octets = take c.in-Ok.n c.read_chunk.new.chunk in
    record {
      reads = search rules;
      bound = search rules;
      reader_well = c.in-Ok.ensures.well ∙ i.reader_well;
      writer_well = c.in-Ok-feed.ensures.well ∙ i.writer_well;
      unfed = i.unfed;
      so_far = (
        s.0 ++ octets,
        s.1 ++ e.0,
        Fed-trans _ _ _ _ _ _ _ s.2 e.1,
        Consumes-trans _ _ _ _ _ s.3 c.in-Ok.ensures.octets,
        Appends-trans _ _ _ _ _ s.4 e.2,
      );
    }
