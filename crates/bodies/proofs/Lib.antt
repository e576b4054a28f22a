mod BodyLaws
mod SpaceLaws
pub mod Kept
