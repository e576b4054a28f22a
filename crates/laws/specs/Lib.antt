pub mod Each
pub mod Table
pub mod Alike
