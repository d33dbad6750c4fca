pub mod CommandText
pub mod Grants
pub mod Leading
pub mod Steps
pub mod Capture
pub mod Seen
pub mod Confirming
