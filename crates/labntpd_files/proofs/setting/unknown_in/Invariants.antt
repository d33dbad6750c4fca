use Rattle.std.proofs.Common.{◌≡◌}
use Rattle.toml.specs.View.{table_view}
use Rattle.labntpd_files.specs.Keys.{names, unknown_in}
use Rattle.labntpd_files.proofs.Tables.{unknown_among}
use Rattle.labntpd_files.proofs.setting.unknown_in.Given as goal

abbrev pub invariant-loop-key : goal.invariant-loop-key
invariant-loop-key l = unknown_in (names l.known) (table_view l.table) ≡ unknown_among (names l.known) l.key-iterator
