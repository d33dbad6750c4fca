use Rattle.std.proofs.Common.{arith}
use Rattle.ntp_packet.proofs.Parts.{put-header}
use Rattle.ntp_packet.proofs.writing.write_header.Goals as goal

pub returns : goal.returns
returns c =
    let e1 = rw c.first_word.ensures at c.put.ensures in
    let e2 = rw (c.to_be_bytes.ensures, c.root_delay.ensures) at c.put-2.ensures in
    let e3 = rw (c.to_be_bytes-2.ensures, c.root_dispersion.ensures) at c.put-3.ensures in
    let e4 = rw (c.reference_id.ensures.four, c.reference_id.ensures.value) at c.put-4.ensures in
    let e5 = rw (c.to_be_bytes-3.ensures, c.reference.ensures) at c.put-5.ensures in
    let e6 = rw (c.to_be_bytes-4.ensures, c.origin.ensures) at c.put-6.ensures in
    let e7 = rw (c.to_be_bytes-5.ensures, c.receive.ensures) at c.put-7.ensures in
    let e8 = rw (c.to_be_bytes-6.ensures, c.transmit.ensures) at c.put-8.ensures in
    put-header c.args.header.now _ _ _ _ _ _ _ _ (omega arith) e1 e2 e3 e4 e5 e6 e7 e8
