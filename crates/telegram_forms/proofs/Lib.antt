mod PutLaws
pub mod Kept
