pub mod Batching
pub mod Strict
pub mod Example
