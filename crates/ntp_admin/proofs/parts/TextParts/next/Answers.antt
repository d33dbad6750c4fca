use Rattle.std.proofs.Common.{◌∙◌, sym, Some, None}
use Rattle.ntp_admin.proofs.Cuts.{parts-split}
use Rattle.ntp_admin.proofs.parts.TextParts.next.Goals as goal

pub returns : goal.returns
returns c =
    let split = parts-split c.self.inside.separator c.in_ok-rest.rest.now
    (Some (c.in-Some.part, c.in-Some.others)) c.in-Some.ensures.cases c.self.invariant in
    let view = rw c.in_ok-rest.was at c.self.view_is in
    sym view ∙ split

pub returns-in_default : goal.returns-in_default
returns-in_default c =
    let split = parts-split c.self.inside.separator c.in_ok-rest.rest.now None c.in_default.ensures.cases c.self.invariant in
    let view = rw c.in_ok-rest.was at c.self.view_is in
    sym view ∙ split
