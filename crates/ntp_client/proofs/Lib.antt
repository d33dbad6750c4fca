pub mod PublicLaws
mod Pairings
mod Authentic
mod Samples
mod Takings
mod AuthenticAnswers
