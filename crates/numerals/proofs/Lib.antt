mod DigitLaws
pub mod Kept
