use Rattle.ntp_clerk.specs.Leading.{enrolment_with}
use Rattle.std.proofs.Common.{sym}
use Rattle.std.specs.Prelude.{option_map}
use Rattle.ntp_clerk.proofs.Stepping.{moves-freed, free-of-none}
use Rattle.ntp_clerk.proofs.leading.free.Goals as goal

pub returns : goal.returns
returns c =
    let freed = moves-freed c.args.service.now c.order.new.service c.args.address _ c.args.commands.now.items c.order.new.commands.items _
    c.in_ok-order.ensures.noted c.in_ok-order.ensures.done (option_map enrolment_with c.terms_at-held.result) c.terms_at-held.ensures.terms c.freeing-step.ensures in
    record { moves = freed.0; only = freed.1 }

pub order-requires : goal.order-requires
order-requires c =
    let frees = c.freeing-step.ensures in
    record {
      named = λ k d inside. (frees.needed k d inside).named;
      refused = rw (sym c.terms_at-held.ensures.terms) frees.refused;
      free = free-of-none c.args.service.now _ frees.asks;
    }
