use Rattle.std.proofs.Common.{rules, sym}
use Rattle.ntp_customer.specs.Past.{with_query}
use Rattle.ntp_reply.proofs.KeptExchanges.{recent-with_query}
use Rattle.ntp_reply.proofs.signed_queries.serve_signed.Goals as goal

pub returns-then-count-budget : goal.returns-then-count-budget
returns-then-count-budget g c = record {
  answer = λ past kept.
      let answer = c.time.ensures.answer (with_query past c.window.result) (sym (c.charge_signed-count.ensures.after past kept)) in
      let time = rw (← recent-with_query past c.window.result) at answer in
      let count = c.charge_signed-count.ensures.counted past kept in
      search (rules, time, count, kept);
  after = λ past kept.
      let after = c.time.ensures.after (with_query past c.window.result) (sym (c.charge_signed-count.ensures.after past kept)) in
      let count = c.charge_signed-count.ensures.counted past kept in
      search (rules, after, count, kept);
  numbers = search rules;
  no_longer = search rules;
}
