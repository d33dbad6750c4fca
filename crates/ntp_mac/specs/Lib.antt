pub mod Key
pub mod Digest
pub mod Mac
pub mod Signed
pub mod Reading
