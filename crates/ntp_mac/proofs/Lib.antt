pub mod PublicLaws
mod KeyPadding
mod Sealing
mod Signing
mod ReadAs
