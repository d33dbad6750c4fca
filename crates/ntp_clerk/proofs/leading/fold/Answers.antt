use Rattle.std.proofs.Common.{List, ◌++◌, ◌∙◌, ap, subst, arith}
use Rattle.std.proofs.lemmas.List.{take_all}
use Rattle.ntp_service.specs.declared.address.Address.{Address}
use Rattle.ntp_clerk.specs.Leading.{HasExactly}
use Rattle.ntp_clerk.proofs.Revoking.{folded-none, folded-more, makes, Folded}
use Rattle.ntp_clerk.proofs.leading.fold.Goals as goal

pub loop-address-init : goal.loop-address-init
loop-address-init c = rw c.new-commands.ensures.items (folded-none c.new-made.result c.new-made.ensures)

pub loop-address-preserved : goal.loop-address-preserved
loop-address-preserved c =
    folded-more c.new-made.result c.loop-address.made c.revoke.new.service c.args.revoked.now c.loop-address.address-index _ c.loop-address.commands.items
    c.revoke.new.commands.items c.loop-address-test.true c.loop-address.invariant c.in_ok-revoke.ensures

pub returns : goal.returns
returns c =
    let folded = subst (λ (all : List Address). Folded c.new-made.result all c.loop-address.commands.items c.loop-address.made)
    (take_all c.loop-address.address-index c.args.revoked.now (omega arith)) c.loop-address.invariant in
    let exactly = subst (λ all. HasExactly c.commands_to.new.service all) c.deref.ensures.value c.in_ok-more.ensures.exactly in
    makes c.new-made.result c.loop-address.made c.commands_to.new.service c.args.service.now c.in_ok-customers.customers.items c.args.revoked.now
    c.loop-address.commands.items c.in_ok-more.more.items _ c.new-made.ensures folded c.in_ok-more.ensures.leads exactly c.in_ok-more.ensures.known
    c.in_ok-customers.ensures.exactly (c.in_ok-extend_from_slice.ensures.items ∙ ap (λ more. c.loop-address.commands.items ++ more) c.deref-2.ensures.value)
