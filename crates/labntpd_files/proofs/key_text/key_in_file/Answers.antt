use Rattle.std.proofs.Common.{◌≡◌, ap, ◌∙◌, arith}
use Rattle.std.proofs.lemmas.Str.Pattern.{strip_suffix_char}
use Rattle.labntpd_files.specs.KeyText.{first_line}
use Rattle.labntpd_files.proofs.Lines.{first_line-is}
use Rattle.labntpd_files.proofs.key_text.key_in_file.Goals as goal

pub returns : goal.returns
returns c =
    let stripped = strip_suffix_char 10 c.args.text.now c.strip_suffix.result c.strip_suffix.ensures.cases (omega arith) in
    let line_is : c.unwrap_or.result.now ≡ first_line c.args.text.now =
    ap (λ b. b.now) c.unwrap_or.ensures ∙ first_line-is c.args.text c.strip_suffix.result stripped in
    rw line_is at c.key.ensures
