use Rattle.std.proofs.Common.{List, ap, ◌∙◌, sym, subst, arith}
use Rattle.std.specs.Prelude.{Contains, option_map}
use Rattle.std.proofs.lemmas.List.{drop_all, drop_more}
use Rattle.ntp_service.specs.declared.address.Address.{Address}
use Rattle.ntp_clerk.specs.{declared.wanted.Wanted.Wanted, Leading.enrolment_with, Leading.AreTwo}
use Rattle.ntp_clerk.proofs.Judging.{has-own, others-lack}
use Rattle.ntp_clerk.proofs.Leads.{freeing-none, freeing-more, giving-none, giving-more, have-exactly}
use Rattle.ntp_clerk.proofs.leading.commands_to.Goals as goal

pub loop-address-init : goal.loop-address-init
loop-address-init c = rw c.new-commands.ensures.items (freeing-none c.args.service.now c.args.wanted.now c.deref-address-items.result.now
    (λ q there. subst (λ (all : List Address). Contains all q) (sym c.deref-address-items.ensures.value) ((c.in_ok-addresses.ensures q).1 there)))

pub loop-address-preserved : goal.loop-address-preserved
loop-address-preserved c =
    let left = drop_more c.deref-address-items.result.now c.loop-address.address-index _ c.loop-address-test.true in
    let own = ap (option_map enrolment_with) (c.copied-terms.ensures ∙ c.get.ensures.value) ∙ c.in_ok-terms.ensures.terms _ in
    freeing-more c.args.service.now c.loop-address.service c.free.new.service c.args.wanted.now _ c.loop-address.commands.items c.free.new.commands.items
    (rw own at c.in_ok-free.ensures.moves) _ (rw own at c.in_ok-free.ensures.only) (rw left at c.loop-address.invariant)

pub loop-customer-init : goal.loop-customer-init
loop-customer-init c =
    let ended = drop_all c.loop-address.address-index c.deref-address-items.result.now c.loop-address-test.false in
    giving-none c.args.service.now c.loop-address.service c.args.wanted.now c.loop-address.commands.items (rw ended at c.loop-address.invariant)

pub give-requires : goal.give-requires
give-requires c =
    let all = c.args.wanted.now in
    let w = c.customer-item.result in
    let apart = c.in_ok-terms.ensures.apart in
    let there : Contains all w = (c.loop-customer.customer-index, c.loop-customer-test.true, sym c.customer-item.is) in
    record {
      only = rw (has-own all w apart there) at (c.loop-customer.invariant.only w.address);
      two = subst (λ (v : Wanted). AreTwo v.terms) (sym c.customer-item.is) (apart.two c.loop-customer.customer-index w c.loop-customer-test.true);
      free = others-lack all w c.loop-customer.service apart there c.loop-customer.invariant.only;
    }

pub loop-customer-preserved : goal.loop-customer-preserved
loop-customer-preserved c =
    let all = c.args.wanted.now in
    let w = c.customer-item.result in
    let own = sym (has-own all w c.in_ok-terms.ensures.apart (c.loop-customer.customer-index, c.loop-customer-test.true, sym c.customer-item.is)) in
    let left = drop_more all c.loop-customer.customer-index w c.loop-customer-test.true in
    giving-more c.args.service.now c.loop-customer.service c.give.new.service all w.address c.loop-customer.commands.items c.give.new.commands.items
    (rw own at c.in_ok-give.ensures.moves) w.terms _ (rw own at c.in_ok-give.ensures.has) (rw (left, ← c.customer-item.is) at c.loop-customer.invariant)

pub returns : goal.returns
returns c =
    let giving = rw (drop_all c.loop-customer.customer-index c.args.wanted.now (omega arith)) at c.loop-customer.invariant in
    record {
      leads = giving.reaches.leads;
      exactly = have-exactly c.args.service.now c.loop-customer.service c.args.wanted.now c.loop-customer.commands.items giving;
      needed = giving.reaches.needed;
      known = giving.reaches.known;
      apart = c.in_ok-terms.ensures.apart;
      fault = λ apart. tt;
    }
