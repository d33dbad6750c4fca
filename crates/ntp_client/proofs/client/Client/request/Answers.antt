use Rattle.ntp_client.proofs.Takings.{query-client}
use Rattle.ntp_client.proofs.client.Client.request.Goals as goal

pub invariant_of-self : goal.invariant_of-self
invariant_of-self c = query-client _ c.self.inside.number _ c.self.inside.sampled _ c.args.now c.self.invariant.number
    c.self.invariant.sampled c.transmit_of.ensures (λ e there. cc)

pub returns-clause-client : goal.returns-clause-client
returns-clause-client c = invariant_of-self c
