pub mod Stack
pub mod Took
