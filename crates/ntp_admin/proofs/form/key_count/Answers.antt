use Rattle.std.proofs.Common.{sym, ◌∙◌}
use Rattle.ntp_admin.proofs.Counts.{key_count-view}
use Rattle.ntp_admin.proofs.form.key_count.Goals as goal

pub returns : goal.returns
returns c = c.len.ensures.len ∙ sym (key_count-view c.args.table.now.entries)
