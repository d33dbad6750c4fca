use Rattle.ntp_clerk.specs.Leading.{enrolment_with}
use Rattle.std.proofs.Common.{Some, sym}
use Rattle.std.specs.Prelude.{option_map}
use Rattle.ntp_clerk.proofs.Stepping.{moves-given, free-to-give}
use Rattle.ntp_clerk.proofs.leading.give.Goals as goal

pub returns : goal.returns
returns c =
    let given = moves-given c.args.service.now c.order.new.service c.args.address _ c.args.commands.now.items c.order.new.commands.items _
    c.in_ok-order.ensures.noted c.in_ok-order.ensures.done (option_map enrolment_with c.terms_at-held.result) c.terms_at-held.ensures.terms
    c.giving-steps.ensures.needed c.giving-steps.ensures.goes in
    record { moves = given.0; has = given.1 }

pub order-requires : goal.order-requires
order-requires c =
    let steps = c.giving-steps.ensures in
    record {
      named = λ k d inside. (steps.needed k d inside).named;
      refused = rw (sym c.terms_at-held.ensures.terms) steps.goes.refused;
      free = free-to-give c.args.service.now (Some (enrolment_with c.args.wanted.now)) c.args.address _ c.requires.free
          (λ k d inside. (steps.needed k d inside).named) steps.goes.asks;
    }
