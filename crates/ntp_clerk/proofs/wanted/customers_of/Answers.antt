use Rattle.std.proofs.Common.{List, [], sym, subst, arith, rules}
use Rattle.std.specs.Prelude.{Contains}
use Rattle.std.proofs.{lemmas.List.drop_all, lemmas.List.drop_more, lemmas.List.Sorted.IsNonDecreasingBy-from_sort_by_key}
use Rattle.ntp_clerk.specs.declared.wanted.Wanted.{Wanted}
use Rattle.ntp_service.specs.declared.address.Address.{Address}
use Rattle.ntp_clerk.proofs.Having.{having-none, having-one, having-no, having-permuted, having-exactly}
use Rattle.ntp_clerk.proofs.wanted.customers_of.Goals.{in-Some+in_ok-push, in_default}
use Rattle.ntp_clerk.proofs.wanted.customers_of.Goals as goal

pub loop-address-init : goal.loop-address-init
loop-address-init c = rw (c.new-customers.ensures.items) (having-none c.args.service.now c.deref-address-items.result.now
    (λ q there. subst (λ (all : List Address). Contains all q) (sym c.deref-address-items.ensures.value) ((c.in_ok-addresses.ensures q).1 there)))

pub loop-address-preserved : goal.loop-address-preserved
loop-address-preserved c =
    let left = drop_more c.deref-address-items.result.now c.loop-address.address-index _ c.loop-address-test.true in
    let having = rw left at c.loop-address.invariant in
    elim c.match-terms_at.branch [
      | in-Some+in_ok-push w ↦ rw (w.customers-is, w.in_ok-push.ensures.items)
          (having-one c.args.service.now _ _ c.loop-address.customers.items having w.in-Some.terms w.in-Some.ensures.terms)
      | in_default w ↦ rw w.customers-is (having-no c.args.service.now _ _ c.loop-address.customers.items having w.in_default.ensures.terms)
    ]

pub returns-clause-exactly : goal.returns-clause-exactly
returns-clause-exactly c =
    let ended = drop_all c.loop-address.address-index c.deref-address-items.result.now (omega arith) in
    having-exactly c.args.service.now c.sort_by_key.new.self.items
    (having-permuted c.args.service.now [] c.loop-address.customers.items c.sort_by_key.new.self.items c.sort_by_key.ensures.permutation
    (rw ended at c.loop-address.invariant))

pub returns-clause-order : goal.returns-clause-order
returns-clause-order c =
    IsNonDecreasingBy-from_sort_by_key (λ (w : Wanted). w.terms.older.number.value) _ c.in_ok-sort_by_key.ensures.sorted (λ a r q k. search rules)
