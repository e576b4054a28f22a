mod LineLaws
mod Turns
mod Room
mod Shown
pub mod Kept
