use Rattle.std.proofs.Common.{refl, ap, arith}
use Rattle.std.specs.Prelude.{option_map}
use Rattle.ntp_server.proofs.Looking.{Looks-nothing}
use Rattle.ntp_server.proofs.server.Server.look.Goals as goal

pub returns-in_default-clause-looks : goal.returns-in_default-clause-looks
returns-in_default-clause-looks g c =
    Looks-nothing _ _ _ _ _ (omega arith) refl refl refl (ap (option_map (λ octets. octets.items)) c.in_default.is) c.look.ensures
