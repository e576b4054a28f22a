mod Asked
pub mod Kept
