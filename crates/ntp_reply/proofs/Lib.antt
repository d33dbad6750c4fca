pub mod PublicLaws
mod DistinctStamps
mod Lengths
mod Answering
mod ReplyLengths
mod KeptExchanges
mod ApartExchanges
mod ShortPasts
