use Rattle.std.proofs.Common.{◌≤◌, ◌-◌, length, drop}
use Rattle.ntp_packet.specs.Faults.{Stands}
use Rattle.ntp_packet.proofs.splitting.tail_place.Given as goal

abbrev pub invariant-loop-at : goal.invariant-loop-at
invariant-loop-at l = (l.at ≤ length l.octets) × Stands l.octets l.at (drop l.at l.octets)

abbrev pub decreases-loop-at : goal.decreases-loop-at
decreases-loop-at l = length l.octets - l.at
