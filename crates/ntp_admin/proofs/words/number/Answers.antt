use Rattle.std.proofs.Common.{◌∙◌, ap}
use Rattle.std.specs.Option.{option_and_then}
use Rattle.ntp_admin.specs.Words.{non_zero}
use Rattle.ntp_admin.proofs.Numbers.{new-non_zero}
use Rattle.ntp_admin.proofs.words.number.Goals as goal

pub returns : goal.returns
returns c =
    new-non_zero c.in_ok-number.number c.new.result c.new.ensures
    ∙ ap (option_and_then non_zero) c.in_ok-number.ensures.number
