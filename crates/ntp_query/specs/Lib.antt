pub mod Answer
pub mod Outcome
pub mod Reference
pub mod Asker
pub mod Exchange
pub mod KeyFile
pub mod Server
pub mod Check
