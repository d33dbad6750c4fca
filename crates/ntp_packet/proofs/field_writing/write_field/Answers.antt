use Rattle.std.proofs.Common.{◌+◌, ◌∙◌, length, refl}
use Rattle.std.proofs.lemmas.List.{take-replicate}
use Rattle.ntp_packet.proofs.Padding.{put-field}
use Rattle.ntp_packet.proofs.field_writing.write_field.Goals as goal

pub returns-clause-written : goal.returns-clause-written
returns-clause-written c =
    put-field c.args.kind (4 + length c.args.value.now + c.padding_of-padding.result) c.args.value.now _ c.args.out.now.items
    c.append.new.out.items c.append-2.new.out.items c.append-3.new.out.items c.append-4.new.out.items
    (rw c.padding_of-padding.ensures.value refl)
    (take-replicate c.padding_of-padding.result 12 0 c.padding_of-padding.ensures.few ∙ rw c.padding_of-padding.ensures.value refl)
    (rw c.to_be_bytes.ensures at c.append.ensures) (rw c.to_be_bytes-2.ensures at c.append-2.ensures) c.append-3.ensures c.append-4.ensures
