pub mod Falls
pub mod Promises
