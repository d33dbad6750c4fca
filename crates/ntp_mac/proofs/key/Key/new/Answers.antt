use Rattle.std.proofs.Common.{refl, arith}
use Rattle.ntp_mac.proofs.KeyPadding.{put-over-zeros}
use Rattle.ntp_mac.proofs.key.Key.new.Goals as goal

pub invariant_of-result : goal.invariant_of-result
invariant_of-result c =
    put-over-zeros c.args.octets.now c.copy_from_slice.new.self _ (grind arith) (omega arith) c.copy_from_slice.ensures.after refl
