pub mod Repeating
pub mod Together
