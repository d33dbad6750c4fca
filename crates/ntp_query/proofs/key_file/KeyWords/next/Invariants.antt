use Rattle.std.proofs.Common.{◌≡◌, length}
use denote.Text.{Utf8}
use denote.Shadow.{shadow}
use Rattle.ntp_query.specs.KeyFile.{words}
use Rattle.ntp_query.proofs.key_file.KeyWords.next.Given as goal

abbrev pub invariant-loop-part : goal.invariant-loop-part
invariant-loop-part l = record { utf8 : shadow (Utf8 l.rest); words : words l.initial.rest ≡ words l.rest }

abbrev pub decreases-loop-part : goal.decreases-loop-part
decreases-loop-part l = length l.rest
