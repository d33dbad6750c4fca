use Rattle.std.proofs.Common.{◌≡◌, false, codes, arith}
use Rattle.std.specs.{Prelude.nat_eq, List.starts_with}
use Rattle.std.proofs.lemmas.Grind.{common_steps}
use Rattle.ntp_query.proofs.KeyForms.{no-prefix}
use Rattle.ntp_query.proofs.key_file.key_of.Goals as goal

pub returns-in-None : goal.returns-in-None
returns-in-None c =
    let hex : starts_with nat_eq c.args.word.now (codes "HEX:") ≡ false = no-prefix (codes "HEX:") c.args.word.now c.in_default.ensures.cases in
    let ascii : starts_with nat_eq c.args.word.now (codes "ASCII:") ≡ false =
    no-prefix (codes "ASCII:") c.args.word.now c.in-None.ensures.cases in
    grind (arith, common_steps)
