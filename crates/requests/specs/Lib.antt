pub mod Asking
pub mod Promises
