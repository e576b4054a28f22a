pub mod Places
pub mod Failures
pub mod Promises
