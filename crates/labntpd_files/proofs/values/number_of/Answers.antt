use Rattle.std.proofs.Common.{◌∙◌, ap, ℕ, Option}
use Rattle.ntp_admin.specs.Words.{non_zero, ◌>>=◌}
use Rattle.ntp_admin.proofs.PublicLaws.{new-non_zero}
use Rattle.labntpd_files.proofs.values.number_of.Goals as goal

pub returns : goal.returns
returns c =
    new-non_zero c.in_ok-whole.whole c.new.result c.new.ensures
    ∙ ap (λ (o : Option ℕ). o >>= non_zero) c.in_ok-whole.ensures.value
