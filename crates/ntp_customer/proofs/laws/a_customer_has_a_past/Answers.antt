use Rattle.std.proofs.Common.{◌≡◌, Option, Some, None, IfSome}
use Rattle.ntp_customer.specs.{Tally.Tally, Tally.IsTally, Customer.Account, Customer.IsAccount, Past.Past, Past.short}
use Rattle.ntp_customer.proofs.{Tallies.tally-of_some_list, Recents.recent-all}
use Rattle.ntp_customer.proofs.laws.a_customer_has_a_past.Goals as goal

-- a customer, by its account
had : (account : Option Account) (refusals : Tally) → IsTally refusals → IfSome account IsAccount
    → (past : Past) × (short past ≡ record { account = account; refusals = refusals })
had None refusals is more =
    let r = tally-of_some_list refusals is in
    (record { account = None; refusals = r.0 }, λ i. record { account = None; refusals = r.1 i })
had (Some a) refusals is more =
    let r = tally-of_some_list refusals is in
    let q = tally-of_some_list a.queries more.queries in
    let x = recent-all a.exchanges more.saved.few in (
      record { account = Some (record { enrolment = a.enrolment; queries = q.0; exchanges = a.exchanges }); refusals = r.0 },
      λ i. record { account = Some (record { enrolment = a.enrolment; queries = q.1 i; exchanges = x i }); refusals = r.1 i },
    )

pub returns : goal.returns
returns c = λ customer is. had customer.account customer.refusals is.refusals is.account
