pub mod Tally
pub mod Exchanges
pub mod Customer
pub mod Past
