pub mod PublicLaws
mod Sequences
mod Dropping
mod ManyTurns
mod Taking
mod OneTurn
mod Answering
mod Counting
mod Watching
mod Seeing
mod Keeping
mod Passing
mod DroppingStale
mod Waiting
mod Looking
mod OneTake
