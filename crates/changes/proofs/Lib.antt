mod Places
mod Heard
mod Changing
mod Rules
pub mod Kept
