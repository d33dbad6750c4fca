use Rattle.std.proofs.Common.{arith, ap, ◌∙◌, ◌≡◌, get_or}
use Rattle.std.specs.Int.{w8, cast_unsigned}
use Rattle.ntp_packet.specs.Header.{HeaderFields}
use Rattle.ntp_packet.proofs.Parts.{read-parts, first-fields, handed-on}
use Rattle.ntp_packet.proofs.reading.read_header.Goals as goal

pub returns-clause-found : goal.returns-clause-found
returns-clause-found c =
    let four = c.four_at.result in
    let octets = c.four_at.ensures.octets in
    let is = c.new.ensures in
    let poll : cast_unsigned w8 c.new.result.poll ≡ get_or four 2 0 =
    rw is (handed-on c.cast_signed.result _ (octets.1 2 0 (omega arith)) c.cast_signed.ensures) in
    let precision : cast_unsigned w8 c.new.result.clock.precision ≡ get_or four 3 0 =
    rw is (handed-on c.cast_signed-2.result _ (octets.1 3 0 (omega arith)) c.cast_signed-2.ensures) in
    let first =
    first-fields c.new.result four octets.0 (octets.1 0 0 (omega arith)) (ap (λ (h : HeaderFields). h.clock.leap) is)
    (ap (λ (h : HeaderFields). h.version) is) (ap (λ (h : HeaderFields). h.mode) is) (ap (λ (h : HeaderFields). h.clock.stratum) is)
    poll precision in
    read-parts c.new.result c.args.octets.now (first ∙ c.four_at.ensures.part)
    (rw is c.short_at.ensures) (rw is c.short_at-2.ensures) (rw is c.four_at-2.ensures.part)
    (rw is c.stamp_at.ensures) (rw is c.stamp_at-2.ensures) (rw is c.stamp_at-3.ensures) (rw is c.stamp_at-4.ensures)
