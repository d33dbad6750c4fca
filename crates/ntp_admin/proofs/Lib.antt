pub mod PublicLaws
mod Cuts
mod Numbers
mod Counts
mod Wholes
mod FileOrder
mod LinesCut
mod LinesTaken
mod LinesApplied
mod Enrolments
