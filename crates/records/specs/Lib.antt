pub mod Emitting
pub mod Promises
