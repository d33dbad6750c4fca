use Rattle.std.proofs.Common.{Ok, Err, sym, subst}
use Rattle.ntp_packet.proofs.PublicLaws.{AreOctets-all}
use Rattle.ntp_mac.proofs.ReadAs.{Reads, Reads-reading_of, only-reading_of}
use Rattle.ntp_mac.proofs.laws.octets_are_what_they_are_read_as.Goals as goal

pub returns-clause-request : goal.returns-clause-request
returns-clause-request c = λ octets request all.
    let are = AreOctets-all octets all in
    (λ read. subst (Reads octets) read (Reads-reading_of octets are), λ is. sym (only-reading_of octets (Ok request) are is))

pub returns-clause-fault : goal.returns-clause-fault
returns-clause-fault c = λ octets fault all.
    let are = AreOctets-all octets all in
    (λ read. subst (Reads octets) read (Reads-reading_of octets are), λ fails. sym (only-reading_of octets (Err fault) are fails))
