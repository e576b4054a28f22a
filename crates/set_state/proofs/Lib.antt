mod Numbers
mod Listeners
pub mod Kept
