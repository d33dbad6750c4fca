use Rattle.std.proofs.Common.{◌∙◌, ap, ◌++◌, rules}
use Rattle.ntp_clerk.proofs.Frames.{split-parts}
use Rattle.ntp_clerk.proofs.capture.next_record.Goals as goal

pub returns-clause-whole : goal.returns-clause-whole
returns-clause-whole c =
    let head = split-parts _ _ _ _ c.in_ok-_head.ensures.cases in
    let frame = split-parts _ _ _ _ c.in_ok-frame.ensures.cases in
    record {
      head = c.in_ok-_head._head.now;
      parts = head.0 ∙ ap (λ rest. c.in_ok-_head._head.now ++ rest) frame.0;
      head_length = head.1;
      captured = search rules;
    }
