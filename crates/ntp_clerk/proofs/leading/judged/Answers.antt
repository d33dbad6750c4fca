use Rattle.std.proofs.Common.{ap, take, arith, ℕ}
use Rattle.std.specs.{Prelude.nat_eq, Map.lookup, List.list_any}
use Rattle.std.proofs.{lemmas.List.take_more, lemmas.List.take_all, lemmas.Result.err_from_is_err_and}
use Rattle.indexmap.specs.{IndexMap.get, IndexSet.contains}
use Rattle.ntp_service.specs.{declared.address.Address.Address, Address.address_eq}
use Rattle.ntp_clerk.proofs.Judging.{judged-none, judged-more, address-free, numbers-free, two-numbers}
use Rattle.ntp_clerk.proofs.leading.judged.Goals as goal

pub loop-customer-init : goal.loop-customer-init
loop-customer-init c =
    judged-none _ _ (λ q. ap (lookup (address_eq q)) c.new-terms.ensures.empty) (λ n. ap (list_any (nat_eq n)) c.new-numbers.ensures.empty)

pub loop-customer-preserved : goal.loop-customer-preserved
loop-customer-preserved c =
    let all = c.args.wanted.now in
    let i = c.loop-customer.customer-index in
    let w = c.customer-item.result in
    let one = judged-more (take i all) w _ _ _ _ c.loop-customer.invariant c.in_ok-note.ensures.notes in
    rw (take_more all i w c.loop-customer-test.true, ← c.customer-item.is) one

pub returns : goal.returns
returns c =
    let judged = rw (take_all c.loop-customer.customer-index c.args.wanted.now (omega arith)) at c.loop-customer.invariant in
    record { terms = judged.among; apart = judged.apart; fault = λ apart. tt }

pub returns-in_err-note-clause-fault : goal.returns-in_err-note-clause-fault
returns-in_err-note-clause-fault c = λ apart.
    let all = c.args.wanted.now in
    let i = c.loop-customer.customer-index in
    let w = c.customer-item.result in
    let old = λ (q : Address). get address_eq c.loop-customer.terms q in
    let numbers = λ (n : ℕ). contains nat_eq c.loop-customer.numbers n in
    let inside = c.loop-customer-test.true in
    let is = c.customer-item.is in
    let p = err_from_is_err_and c.from_residual.result c.from_residual.ensures.1 in
    rw (p.1, p.2) (c.in_err-note.ensures.fault (address-free all i w inside is old numbers c.loop-customer.invariant apart)
    (two-numbers all i w inside is old numbers c.loop-customer.invariant apart) (numbers-free all i w inside is old numbers c.loop-customer.invariant apart))
