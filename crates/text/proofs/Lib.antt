mod DecimalLaws
mod PutLaws
mod SignedLaws
pub mod Kept
