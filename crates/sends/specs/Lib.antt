pub mod Promises
pub mod Scripts
