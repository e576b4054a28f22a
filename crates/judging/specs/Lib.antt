pub mod Judging
pub mod Promises
