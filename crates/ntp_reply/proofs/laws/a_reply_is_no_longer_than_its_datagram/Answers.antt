use Rattle.ntp_reply.proofs.ReplyLengths.{fits-datagram, fits-answer}
use Rattle.ntp_reply.proofs.laws.a_reply_is_no_longer_than_its_datagram.Goals as goal

pub returns-clause-datagram : goal.returns-clause-datagram
returns-clause-datagram c = λ life o octets all id.
    fits-datagram life o octets (λ r. (c.octets_are_what_they_are_read_as.ensures.request octets r all).0) id

pub returns-clause-most : goal.returns-clause-most
returns-clause-most c = fits-answer
