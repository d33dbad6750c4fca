use Rattle.std.proofs.Common.{rules}
use Rattle.std.specs.Prelude.{string_bytes}
use Rattle.ntp_clerk.proofs.NameLines.{name-says}
use Rattle.ntp_clerk.proofs.command_text.name_line.Goals as goal

pub returns : goal.returns
returns c = λ is. name-says c.args.address c.args.name.now (string_bytes c.in_ok-line.line) c.address_word.ensures.octets is (search rules)
