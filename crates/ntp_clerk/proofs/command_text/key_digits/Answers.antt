use Rattle.std.proofs.Common.{sym, ◌∙◌, subst}
use Rattle.ntp_clerk.specs.CommandText.{AreKeyOctets}
use Rattle.ntp_clerk.proofs.command_text.key_digits.Goals as goal

pub returns-in-Some-clause-octets : goal.returns-in-Some-clause-octets
returns-in-Some-clause-octets c =
    let octets = subst AreKeyOctets c.octets.ensures.octets (c.octets.ensures.some, c.octets.ensures.most, c.octet_digits.ensures.octets) in
    rw (sym c.key_named.ensures ∙ c.in-Some.is) octets
