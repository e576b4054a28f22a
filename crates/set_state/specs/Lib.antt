pub mod State
pub mod Entry
pub mod Promises
