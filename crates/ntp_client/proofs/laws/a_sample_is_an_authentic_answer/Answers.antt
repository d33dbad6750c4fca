use Rattle.ntp_packet.proofs.PublicLaws.{AreOctets-all}
use Rattle.ntp_client.proofs.Samples.{sample-given, given-taken}
use Rattle.ntp_client.proofs.laws.a_sample_is_an_authentic_answer.Goals as goal

pub returns : goal.returns
returns c = λ client octets at s is all.
    let are = AreOctets-all octets all in
    (sample-given client octets at s are, given-taken client octets at s is are)
