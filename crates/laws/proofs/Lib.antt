pub mod Each
pub mod Lists
pub mod Seeking
pub mod Tests
pub mod Table
pub mod Alike
