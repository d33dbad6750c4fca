use Rattle.ntp_mac.proofs.Signing.{test-of-parts, test-shows-signed}
use Rattle.ntp_mac.proofs.verifying.verifies.Goals as goal

pub returns-clause-test : goal.returns-clause-test
returns-clause-test c =
    test-of-parts c.args.key.now c.args.number _ c.args.request.now c.is_mac.result c.request.view_is c.is_mac.ensures

pub returns-clause-signed : goal.returns-clause-signed
returns-clause-signed c =
    test-shows-signed c.args.key.now c.args.number c.args.request.now c.is_mac.result (returns-clause-test c)
