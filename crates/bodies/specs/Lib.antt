pub mod Bodies
pub mod Promises
