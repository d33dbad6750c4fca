use Rattle.std.proofs.Common.{◌≡◌, ◌+◌, ◌≤◌, length}
use denote.Text.{Utf8}
use denote.Shadow.{shadow}
use Rattle.ntp_admin.specs.Words.{parts}
use Rattle.ntp_query.specs.KeyFile.{key_in_lines, key_in_text}
use Rattle.ntp_query.proofs.key_file.key_in_text.Given as goal

abbrev pub invariant-loop-first : goal.invariant-loop-first
invariant-loop-first l = record {
  utf8 : shadow (Utf8 l.rest);
  room : l.line + length l.rest ≤ length l.text + 1;
  same : key_in_text l.number l.text ≡ key_in_lines l.number l.line (parts 10 l.rest);
}

abbrev pub decreases-loop-first : goal.decreases-loop-first
decreases-loop-first l = length l.rest
