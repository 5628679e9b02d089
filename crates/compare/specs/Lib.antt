pub mod Compare
pub mod Differences
