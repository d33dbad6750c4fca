use Rattle.std.proofs.Common.{Some, refl, sym, ap}
use Rattle.ntp_service.proofs.Agreement.{agrees-with_customer}
use Rattle.ntp_service.specs.Model.{departure_outcome}
use Rattle.ntp_service.proofs.Datagrams.{unregistered-tells, customer-tells, unstruck, unchanged-there}
use Rattle.ntp_service.proofs.service.Service.departed.Goals as goal

pub returns-in_default-clause-tells : goal.returns-in_default-clause-tells
returns-in_default-clause-tells g c = λ history stands.
    rw c.self.view_is (unregistered-tells _ history _ stands refl _ refl
    (sym (rw c.self.view_is at c.in_default.ensures.value)) refl refl)

pub invariant_of-self-2 : goal.invariant_of-self-2
invariant_of-self-2 g c =
    agrees-with_customer c.self.inside.register c.args.address c.depart.new.customer c.self.invariant c.in-Some.receiver.now
    (sym c.in-Some.ensures.value) c.depart.ensures.numbers

pub returns-clause-tells : goal.returns-clause-tells
returns-clause-tells g c = λ history stands.
    let y = c.depart.ensures in
    customer-tells _ history _ (rw (← c.self.view_is) at stands) refl _ (unstruck c.depart.result)
    c.in-Some.receiver.now c.depart.new.customer (sym c.in-Some.ensures.value)
    (λ past is. ap departure_outcome (y.noted past is)) (λ past is. ap Some (y.after past is)) (invariant_of-self-2 g c)

pub returns-clause-unchanged : goal.returns-clause-unchanged
returns-clause-unchanged g c =
    unchanged-there c.depart.result c.self.inside.register c.args.self.now c.args.address c.in-Some.receiver.now c.depart.new.customer
    (sym c.self.view_is) (sym c.in-Some.ensures.value) c.depart.ensures.unchanged
