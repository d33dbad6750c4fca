use Rattle.std.proofs.Common.{◌≡◌, ◌+◌, ◌∙◌, sym, subst, arith}
use Rattle.ntp_clerk.proofs.Lowest.{all-held, new-next, passed-all, passed-held, passed-used, Passed}
use Rattle.ntp_clerk.proofs.confirming.number_for_a_key.Goals.{then-is_none+else-not-contains, else-is_none}
use Rattle.ntp_clerk.proofs.confirming.number_for_a_key.Goals as goal

pub loop-number-preserved : goal.loop-number-preserved
loop-number-preserved c =
    elim c.if-is_none.branch [
      | then-is_none+else-not-contains w ↦ rw (w.lowest-is, w.or-lowest.ensures)
          (passed-used _ _ c.loop-number.number-counter _ c.loop-number.invariant (rw c.holder.ensures at w.if-is_none.ensures) _ w.new-then-is_none.ensures
          c.loop-number.auto.number-counter (sym w.contains.ensures.value ∙ w.if-not-contains.false))
      | else-is_none w ↦ rw w.lowest-is (passed-held _ _ _ _ c.loop-number.invariant (rw c.holder.ensures at w.if-is_none.ensures))
    ]

pub returns-then-not-contains-clause-next : goal.returns-then-not-contains-clause-next
returns-then-not-contains-clause-next c =
    new-next _ _ c.loop-number.number-counter _ c.loop-number.invariant (rw c.holder.ensures at c.if-is_none.ensures) _ c.new.ensures
    c.loop-number.auto.number-counter (sym c.contains.ensures.value ∙ c.if-not-contains.true)

pub returns-after-is_none : goal.returns-after-is_none
returns-after-is_none c =
    let last : c.loop-number.number-counter + 1 ≡ 65536 = omega arith in
    let passed : Passed c.args.used.now c.args.service.now c.if-is_none.lowest (c.loop-number.number-counter + 1) = elim c.if-is_none.branch [
      | then-is_none+else-not-contains w ↦ rw (w.lowest-is, w.or-lowest.ensures)
          (passed-used _ _ c.loop-number.number-counter _ c.loop-number.invariant (rw c.holder.ensures at w.if-is_none.ensures) _ w.new-then-is_none.ensures
          c.loop-number.auto.number-counter (sym w.contains.ensures.value ∙ w.if-not-contains.false))
      | else-is_none w ↦ rw w.lowest-is (passed-held _ _ _ _ c.loop-number.invariant (rw c.holder.ensures at w.if-is_none.ensures))
    ] in
    let all = subst (Passed c.args.used.now c.args.service.now c.if-is_none.lowest) last passed in
    record { next = passed-all _ _ c.if-is_none.lowest all; none = all-held _ _ c.if-is_none.lowest all }
