pub mod Forms
pub mod Promises
