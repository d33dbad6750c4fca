use Rattle.std.proofs.Common.{◌≡◌, ◌≤◌, length, drop}
use denote.Text.{Utf8}
use denote.Shadow.{shadow}
use Rattle.ntp_admin.specs.CommandsFile.{complete_lines}
use Rattle.labntp.proofs.whole_commands.behind.Given as goal

abbrev pub invariant-loop-line : goal.invariant-loop-line
invariant-loop-line l = record {
  utf8 : shadow (Utf8 l.rest);
  within : length l.rest ≤ length l.text;
  many : l._line ≤ length (complete_lines l.text);
  behind : complete_lines l.rest ≡ drop l._line (complete_lines l.text);
}
