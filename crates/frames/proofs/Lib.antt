mod FrameLaws
pub mod Kept
