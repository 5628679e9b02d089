pub mod Stepping
pub mod Repeating
pub mod Repeated
pub mod All
