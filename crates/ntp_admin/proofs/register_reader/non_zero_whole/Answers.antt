use Rattle.std.proofs.Common.{w64}
use Rattle.std.proofs.lemmas.Int.{to_z-of_z}
use Rattle.ntp_admin.proofs.Wholes.{non_zero_whole-read}
use Rattle.ntp_admin.proofs.register_reader.non_zero_whole.Goals as goal

pub returns : goal.returns
returns c =
    non_zero_whole-read c.args.whole c.in_ok-number.number c.try_from.result c.new.result
    (rw (to_z-of_z w64 c.args.whole c.ranges.whole) at c.try_from.ensures) c.in_ok-number.ensures.value c.new.ensures
