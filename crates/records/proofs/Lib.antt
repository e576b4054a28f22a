mod Writing
mod RecordLaws
mod SendLaws
mod Emission
pub mod Kept
