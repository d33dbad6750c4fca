use Rattle.std.proofs.Common.{rules, sym, arith}
use Rattle.ntp_mac.proofs.PublicLaws.{answers-so}
use Rattle.ntp_reply.proofs.deciding.answer_octets.Goals as goal

pub returns-in-Ok-clause-answer : goal.returns-in-Ok-clause-answer
returns-in-Ok-clause-answer g c = λ past kept.
    let is = answers-so c.args.octets.now c.read_request.result
    (λ i. omega (arith, c.type_inv.octets i)) c.read_request.ensures.only c.read_request.ensures.exact in
    rw (← is, c.in-Ok.is) (c.answer.ensures.answer past kept)

pub returns-in-Ok-clause-after : goal.returns-in-Ok-clause-after
returns-in-Ok-clause-after g c = λ past kept.
    let is = answers-so c.args.octets.now c.read_request.result
    (λ i. omega (arith, c.type_inv.octets i)) c.read_request.ensures.only c.read_request.ensures.exact in
    rw (← is, c.in-Ok.is) (c.answer.ensures.after past kept)

pub returns-in-Err : goal.returns-in-Err
returns-in-Err g c =
    let is = answers-so c.args.octets.now c.read_request.result
    (λ i. omega (arith, c.type_inv.octets i)) c.read_request.ensures.only c.read_request.ensures.exact in
    record {
      answer = λ past kept. rw (← is, c.in-Err.is);
      after = λ past kept. rw (← is, c.in-Err.is) (sym kept);
      numbers = search rules;
      no_longer = search rules;
    }
