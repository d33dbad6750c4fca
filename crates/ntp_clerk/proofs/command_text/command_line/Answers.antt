use Rattle.std.proofs.Common.{rules}
use Rattle.std.specs.Prelude.{string_bytes}
use Rattle.ntp_clerk.proofs.CommandLines.{line-says}
use Rattle.ntp_clerk.proofs.command_text.command_line.Goals as goal

pub returns : goal.returns
returns c = line-says c.args.command.now (string_bytes c.in_ok-line.line) c.in_ok-text.ensures.command c.key_digits.ensures.octets (search rules)
