use Rattle.std.proofs.Common.{rules}
use Rattle.std.specs.Prelude.{string_bytes}
use Rattle.ntp_clerk.proofs.NameLines.{record-passed}
use Rattle.ntp_clerk.proofs.command_text.record_line.Goals as goal

pub returns-clause-line : goal.returns-clause-line
returns-clause-line c = λ is_time is_user. record-passed c.args.time.now c.args.user.now (string_bytes c.in_ok-line.line) is_time is_user (search rules)
