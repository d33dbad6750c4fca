-- The laws of this crate that the proofs of other crates cite, each passed on from the module that proves it.

-- two addresses are one, or not
pub use Rattle.ntp_service.proofs.AddressLaws.{same_or_other_address}
-- where a customer was written, its address has it, and each other address what it had
pub use Rattle.ntp_service.proofs.Lookups.{customer_at-with_customer, customer_at-with_customer-other}
-- the test of addresses is an equivalence
pub use Rattle.ntp_service.proofs.AddressLaws.{address_eq_equiv}
-- it says yes where addresses are one, and no where they differ
pub use Rattle.ntp_service.proofs.Histories.{same-address, other-address}
-- of nothing that happened a service tells nothing
pub use Rattle.ntp_service.proofs.Runs.{Tells-nil}
-- a service tells of one event as it tells of a list of one
pub use Rattle.ntp_service.proofs.Runs.{Tells-one}
-- a service that told of a list tells of the list with one event more
pub use Rattle.ntp_service.proofs.Runs.{Tells-push}
-- a service that told of two lists, one after the other, tells of both
pub use Rattle.ntp_service.proofs.Runs.{Tells-append}
-- two lists that led on, one after the other, led on together
pub use Rattle.ntp_service.proofs.InTurns.{InTurn-append}
