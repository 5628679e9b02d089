-- What is read.
pub mod Reading
