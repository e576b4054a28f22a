mod Maps
pub mod Kept
