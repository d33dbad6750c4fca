pub mod Reference
pub mod Replies
pub mod Life
pub mod Kind
pub mod Exchanged
pub mod Verdict
pub mod Answered
