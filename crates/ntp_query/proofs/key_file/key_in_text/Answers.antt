use Rattle.std.proofs.Common.{rules, sym, ◌∙◌, arith, length, ◌<◌}
use Rattle.ntp_query.proofs.KeyLines.{lines-found, lines-on, lines-last, lines-end, rest-shorter}
use Rattle.ntp_query.proofs.key_file.key_in_text.Goals as goal

pub returns-then-is_key_line : goal.returns-then-is_key_line
returns-then-is_key_line c =
    c.key_in_line.ensures
    ∙ sym (c.loop-first.invariant.same ∙ lines-found c.args.number c.loop-first.line c.loop-first.rest.now (c.in-Some.first, c.in-Some.others)
    c.in-Some.ensures.cases (sym c.is_key_line.ensures ∙ c.if-is_key_line.true))

pub loop-first-smaller : goal.loop-first-smaller
loop-first-smaller c =
    let shorter : length c.in-Some.others.now < length c.loop-first.rest.now =
    rest-shorter 10 c.loop-first.rest.now (c.in-Some.first, c.in-Some.others) (omega arith) c.in-Some.ensures.cases in
    omega arith

pub loop-first-preserved : goal.loop-first-preserved
loop-first-preserved c =
    let shorter : length c.in-Some.others.now < length c.loop-first.rest.now =
    rest-shorter 10 c.loop-first.rest.now (c.in-Some.first, c.in-Some.others) (omega arith) c.in-Some.ensures.cases in
    record {
      utf8 = search rules;
      room = omega (arith, c.loop-first.invariant.room);
      same = c.loop-first.invariant.same ∙ lines-on c.args.number c.loop-first.line c.loop-first.rest.now (c.in-Some.first, c.in-Some.others)
          c.in-Some.ensures.cases (sym c.is_key_line.ensures ∙ c.if-is_key_line.false);
    }

pub returns-then-is_key_line-2 : goal.returns-then-is_key_line-2
returns-then-is_key_line-2 c =
    c.key_in_line-then-is_key_line-2.ensures
    ∙ sym (c.loop-first.invariant.same ∙ lines-last c.args.number c.loop-first.line c.loop-first.rest.now c.in_default.ensures.cases
    (sym c.is_key_line-2.ensures ∙ c.if-is_key_line-2.true))

pub returns : goal.returns
returns c =
    sym (c.loop-first.invariant.same ∙ lines-end c.args.number c.loop-first.line c.loop-first.rest.now c.in_default.ensures.cases
    (sym c.is_key_line-2.ensures ∙ c.if-is_key_line-2.false))
