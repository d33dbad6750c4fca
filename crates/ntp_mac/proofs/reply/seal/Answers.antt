use Rattle.ntp_mac.proofs.Sealing.{seal-parts}
use Rattle.ntp_mac.proofs.reply.seal.Goals as goal

pub returns-clause-sealed : goal.returns-clause-sealed
returns-clause-sealed c =
    let numbered = rw (c.to_be_bytes.ensures, c.from.ensures) at c.append.ensures in
    seal-parts c.args.key.now c.args.number _ _ _ _ _ _ c.octets.ensures.octets c.digest-digest.ensures numbered
    c.octets-2.ensures c.append-2.ensures
