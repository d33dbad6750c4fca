use Rattle.std.proofs.Common.{◌∙◌, sym, arith, rules}
use Rattle.ntp_admin.proofs.Numbers.{decimal_in-refused}
use Rattle.ntp_admin.proofs.words.decimal.Goals as goal

pub returns-in_err-number-clause-number : goal.returns-in_err-number-clause-number
returns-in_err-number-clause-number c =
    c.from_residual.ensures
    ∙ sym (decimal_in-refused c.args.least c.args.most c.args.word.now c.parse.result (omega arith)
    (search rules) c.parse.ensures.value.0 c.in_err-number.ensures.value)
