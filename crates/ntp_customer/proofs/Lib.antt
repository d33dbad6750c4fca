pub mod PublicLaws
mod Tallies
mod Recents
mod Changes
mod Saved
mod NewStamps
mod Places
mod Listed
mod Charged
mod Customers
mod Pasts
