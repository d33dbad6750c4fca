use Rattle.std.proofs.Common.{rules}
use Rattle.labntpd_files.proofs.Tables.{unknown_in-view}
use Rattle.labntpd_files.proofs.setting.unknown_in.Goals as goal

pub loop-key-init : goal.loop-key-init
loop-key-init c = search (rules, unknown_in-view)
