use Rattle.std.proofs.Common.{◌≡◌, ◌≤◌, length, drop}
use Rattle.ntp_admin.specs.CommandsFile.{complete_lines}
use Rattle.ntp_admin.proofs.commands.behind.Given as goal

abbrev pub invariant-loop-line : goal.invariant-loop-line
invariant-loop-line l = record {
  many : l._line ≤ length (complete_lines l.octets);
  behind : complete_lines l.rest ≡ drop l._line (complete_lines l.octets);
}
