mod Moving
mod Nexts
mod Hands
pub mod Kept
mod Known
mod Stands
