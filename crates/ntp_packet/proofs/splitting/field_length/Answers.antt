use Rattle.std.proofs.Common.{arith, rules}
use Rattle.ntp_packet.proofs.RestFaults.{IsFieldShort, IsFieldUnaligned, IsFieldPastEnd}
use Rattle.ntp_packet.proofs.Places.{fails_at}
use Rattle.ntp_packet.proofs.splitting.field_length.Goals as goal

pub returns-then-length-lt-LEAST_FIELD_OCTETS-clause-fault : goal.returns-then-length-lt-LEAST_FIELD_OCTETS-clause-fault
returns-then-length-lt-LEAST_FIELD_OCTETS-clause-fault c = λ octets fits s.
    fails_at IsFieldShort octets _ c.args.rest.now fits s (c.requires, omega arith)

pub returns-then-length-ne0-clause-fault : goal.returns-then-length-ne0-clause-fault
returns-then-length-ne0-clause-fault c = λ octets fits s.
    fails_at IsFieldUnaligned octets _ c.args.rest.now fits s
    (c.requires, (omega arith, rw (← c.written_length-length.ensures) (search rules)))

pub returns-then-from-rest-clause-fault : goal.returns-then-from-rest-clause-fault
returns-then-from-rest-clause-fault c = λ octets fits s.
    fails_at IsFieldPastEnd octets _ c.args.rest.now fits s
    (c.requires, (omega arith, rw (← c.written_length-length.ensures) (search rules), omega arith))
