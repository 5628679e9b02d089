pub mod Run
pub mod Serve
