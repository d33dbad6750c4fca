use Rattle.std.proofs.Common.{◌≡◌, Some, ap, ◌∙◌}
use Rattle.ntp_client.specs.State.{ClientState}
use Rattle.ntp_client.proofs.Takings.{sampled-client}
use Rattle.ntp_client.proofs.client.Client.take_reply.Goals as goal

pub invariant_of-self : goal.invariant_of-self
invariant_of-self c =
    let waits : c.self.inside.outstanding ≡ Some c.args.asked = ap (λ (k : ClientState). k.outstanding) c.self.view_is ∙ c.requires in
    sampled-client _ _ c.self.inside.outstanding _ c.args.asked c.reply.inside.header c.args.at _ c.self.invariant.number
    c.self.invariant.outstanding c.exchange_of.ensures (λ o there. cc)

pub returns-in-Sample-clause-client : goal.returns-in-Sample-clause-client
returns-in-Sample-clause-client c = invariant_of-self c
