use Rattle.std.proofs.Common.{take}
use Rattle.ntp_clerk.proofs.Revoking.{Folded}
use Rattle.ntp_clerk.proofs.leading.fold.Given as goal

abbrev pub invariant-loop-address : goal.invariant-loop-address
invariant-loop-address l = Folded l.initial.made (take l.address-index l.revoked) l.commands.items l.made
