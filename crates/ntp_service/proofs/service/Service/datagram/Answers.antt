use Rattle.std.proofs.Common.{Some, refl, sym, ap}
use Rattle.ntp_service.proofs.{Agreement.agrees-with_customer, Datagrams.unregistered-tells, Datagrams.customer-tells}
use Rattle.ntp_service.proofs.Forgeries.{answered-alone}
use Rattle.ntp_service.specs.declared.outcome.Outcome.TheVariants.{Datagram}
use Rattle.ntp_service.proofs.service.Service.datagram.Goals as goal

pub returns-in_default-clause-tells : goal.returns-in_default-clause-tells
returns-in_default-clause-tells g c = λ history stands.
    rw c.self.view_is (unregistered-tells _ history _ stands refl _ refl
    (sym (rw c.self.view_is at c.in_default.ensures.value)) refl refl)

pub invariant_of-self-2 : goal.invariant_of-self-2
invariant_of-self-2 g c =
    agrees-with_customer c.self.inside.register c.args.address c.answer_octets.new.customer c.self.invariant c.in-Some.customer.now
    (sym c.in-Some.ensures.value) c.answer_octets.ensures.numbers

pub returns-clause-tells : goal.returns-clause-tells
returns-clause-tells g c = λ history stands.
    let y = c.answer_octets.ensures in
    customer-tells _ history _ (rw (← c.self.view_is) at stands) refl _ refl c.in-Some.customer.now c.answer_octets.new.customer
    (sym c.in-Some.ensures.value) (λ past is. ap Datagram (y.answer past is)) (λ past is. ap Some (y.after past is))
    (invariant_of-self-2 g c)

pub returns-in_default-clause-forgeries : goal.returns-in_default-clause-forgeries
returns-in_default-clause-forgeries g c = λ history stands is.
    answered-alone history _ _ _ _ _ _ _ (returns-in_default-clause-tells g c history stands) is

pub returns-clause-forgeries : goal.returns-clause-forgeries
returns-clause-forgeries g c = λ history stands is.
    answered-alone history _ _ _ _ _ _ _ (returns-clause-tells g c history stands) is
