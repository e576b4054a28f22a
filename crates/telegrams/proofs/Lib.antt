mod LineLaws
mod TurnLaws
mod RunLaws
mod Samples
pub mod Kept
