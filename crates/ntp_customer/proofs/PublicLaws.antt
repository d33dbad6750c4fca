-- The laws of this crate that the proofs of other crates cite, each passed on from the module that proves it.

-- a customer is not enrolled, or is
pub use Rattle.ntp_customer.proofs.Customers.{by_customer}
-- an account with this count of signed queries
pub use Rattle.ntp_customer.proofs.Customers.{with_queries}
-- a customer with this count of refusals
pub use Rattle.ntp_customer.proofs.Customers.{with_refusals}
-- an enrolment with one key more
pub use Rattle.ntp_customer.proofs.Customers.{with_key}
-- an enrolment without the key of a number
pub use Rattle.ntp_customer.proofs.Customers.{without_key}
-- another budget leaves the key numbers
pub use Rattle.ntp_customer.proofs.Customers.{numbers-rebudgeted}
-- to revoke a customer that is not enrolled changes nothing
pub use Rattle.ntp_customer.proofs.Customers.{revoked-absent}
-- a past is that of an address that is not enrolled now, or of one that is
pub use Rattle.ntp_customer.proofs.Pasts.{by_past}
-- the enrolment that is kept is that of the past
pub use Rattle.ntp_customer.proofs.Pasts.{enrolment_at-short}
-- the tally of the signed queries of a customer
pub use Rattle.ntp_customer.proofs.Pasts.{queries_kept}
-- the tally that is kept is that of the windows of the past
pub use Rattle.ntp_customer.proofs.Pasts.{queries-short}
-- a signed query more in the past is one more in the tally
pub use Rattle.ntp_customer.proofs.Pasts.{short-with_query}
-- after an event in `v` the count in `w` is one more where `v` is `w`, and else 0
pub use Rattle.ntp_customer.proofs.Tallies.{count_in-append}
-- lists with one tally have the same count in each window, and one tally after one more event
pub use Rattle.ntp_customer.proofs.Tallies.{tally-tells_all}
-- the recent exchanges are at most as many as are saved
pub use Rattle.ntp_customer.proofs.Recents.{length-recent}
-- to spend an exchange leaves as many
pub use Rattle.ntp_customer.proofs.Recents.{length-spent}
-- where there are no more exchanges than are saved, all are recent
pub use Rattle.ntp_customer.proofs.Recents.{recent-all}
-- to keep the recent exchanges alone loses nothing that is recent later
pub use Rattle.ntp_customer.proofs.Recents.{recent-append}
-- a list with as many others in the place of its recent exchanges has these
pub use Rattle.ntp_customer.proofs.Recents.{recent-with_recent}
-- where one of the recent exchanges departs, the list has it departed
pub use Rattle.ntp_customer.proofs.Recents.{recent-departed}
-- to spend an exchange leaves all receive stamps
pub use Rattle.ntp_customer.proofs.Changes.{receives-spent}
-- to spend an exchange leaves all stamps
pub use Rattle.ntp_customer.proofs.Changes.{all_stamps-spent}
-- what is found is a member that passes the test
pub use Rattle.ntp_customer.proofs.Changes.{find-member}
-- what a function gives of a member is among what it gives of all
pub use Rattle.ntp_customer.proofs.Saved.{Contains-map}
-- no exchanges are saved exchanges
pub use Rattle.ntp_customer.proofs.Saved.{AreSaved-nil}
-- saved exchanges stay so where one with free stamps is pushed
pub use Rattle.ntp_customer.proofs.Saved.{AreSaved-push}
-- saved exchanges stay so where one is spent
pub use Rattle.ntp_customer.proofs.Saved.{AreSaved-spent}
-- saved exchanges stay so where one departs
pub use Rattle.ntp_customer.proofs.Saved.{AreSaved-departed}
-- of saved exchanges none has a stamp 0, and no transmit stamp is a receive stamp
pub use Rattle.ntp_customer.proofs.Saved.{stamps-apart}
