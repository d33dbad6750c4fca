pub mod Keys
pub mod Values
pub mod Settings
pub mod KeyText
pub mod Shown
pub mod HardlyMeant
pub mod CommandWords
pub mod Wanted
