use Rattle.ntp_packet.proofs.Readings.{octets-all, header_in, spelled-again, fits-in, only-header}
use Rattle.ntp_packet.proofs.laws.any_48_octets_are_one_header.Goals as goal

pub returns : goal.returns
returns c = λ octets len all.
    let each = octets-all octets all in
    (header_in octets, fits-in octets len each, spelled-again octets len each, λ other is spells. only-header other octets is spells)
