mod Cuts
mod TurnLaws
mod Listed
pub mod Kept
