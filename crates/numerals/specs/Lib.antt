pub mod Digits
pub mod Held
pub mod Promises
