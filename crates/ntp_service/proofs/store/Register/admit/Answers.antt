use Rattle.std.proofs.Common.{ap, ◌∙◌}
use Rattle.ntp_service.specs.Registry.{without_holder}
use Rattle.ntp_service.proofs.Lookups.{without_holder-with_holder}
use Rattle.ntp_service.proofs.store.Register.admit.Goals as goal

pub returns-in-Err-clause-kept : goal.returns-in-Err-clause-kept
returns-in-Err-clause-kept g c =
    c.take_holder.ensures
    ∙ ap (λ r. without_holder r c.get-number.result) (c.in-Err.ensures.err ∙ c.in_ok-put_holder.ensures.ok)
    ∙ without_holder-with_holder c.args.self.now c.get-number.result c.args.address (rw c.get-number.ensures.value c.requires.free)
