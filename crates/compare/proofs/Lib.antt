pub mod Turns
pub mod Answers
pub mod Spans
pub mod Ranges
