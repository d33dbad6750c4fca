use Rattle.std.proofs.Common.{◌∙◌, rules, tests}
use Rattle.std.proofs.lemmas.Iterator.{YieldsList-from_slice}
use Rattle.std.proofs.lemmas.Iterator.Search.{any_from_yields_List}
use Rattle.labntpd_files.proofs.Tables.{any_of_names}
use Rattle.labntpd_files.proofs.setting.is_known.Goals as goal

pub returns : goal.returns
returns c =
    any_from_yields_List _ _ _ c.any.result c.any.ensures.ran (YieldsList-from_slice c.args.known.now (cc))
    (λ x b q k. search (rules, tests))
    ∙ any_of_names c.args.key.now c.args.known.now
