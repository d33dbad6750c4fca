use Rattle.std.proofs.Common.{sym, subst}
use Rattle.ntp_clerk.specs.{Seen.IsSeen, declared.seen.Seen.TheVariants.Enrolled}
use Rattle.ntp_clerk.proofs.seen.seen_at.Goals as goal

pub returns-in-Some-terms_of : goal.returns-in-Some-terms_of
returns-in-Some-terms_of c = subst (λ o. IsSeen o (Enrolled c.seen_terms.result)) c.in-Some.ensures
    (c.in-Some-terms_of.terms, sym c.in-Some-terms_of.ensures.terms, c.seen_terms.ensures)
