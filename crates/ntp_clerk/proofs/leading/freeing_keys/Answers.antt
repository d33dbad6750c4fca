use Rattle.std.proofs.Common.{refl}
use Rattle.std.proofs.lemmas.Bool.{iff_false}
use Rattle.ntp_clerk.specs.Leading.{enrolment_with}
use Rattle.ntp_clerk.proofs.Stepping.{frees-none, frees-newer, frees-older}
use Rattle.ntp_clerk.proofs.leading.freeing_keys.Goals as goal

pub returns-in-true-true : goal.returns-in-true-true
returns-in-true-true c = rw c.in-Some.is (frees-none c.args.address c.args.held.now.older c.in-Some.newer c.args.held.now.budget.value
    (enrolment_with c.args.wanted.now) (c.in-true-true.ensures.0 refl) (c.in-true-true.ensures'.0 refl))

pub returns-in-true-false : goal.returns-in-true-false
returns-in-true-false c = rw (c.retirement.ensures, c.in-Some.is)
    (frees-newer c.args.address c.args.held.now.older c.in-Some.newer c.args.held.now.budget.value (enrolment_with c.args.wanted.now)
    (rw c.in-Some.is at c.requires) (c.in-true-false.ensures.0 refl) (iff_false c.in-true-false.ensures' refl))

pub returns-in-false-true : goal.returns-in-false-true
returns-in-false-true c = rw (c.retirement-in-false-true.ensures, c.in-Some.is)
    (frees-older c.args.address c.args.held.now.older c.in-Some.newer c.args.held.now.budget.value (enrolment_with c.args.wanted.now)
    (rw c.in-Some.is at c.requires) (iff_false c.in-false-true.ensures refl) (c.in-false-true.ensures'.0 refl))
