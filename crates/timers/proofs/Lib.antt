mod Ticks
pub mod Kept
