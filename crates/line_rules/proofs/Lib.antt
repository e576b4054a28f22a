mod Veil
mod Traps
mod Ranges
mod Timers
mod Rings
mod Masks
mod Among
mod Holding
mod Place
mod Turns
pub mod Kept
