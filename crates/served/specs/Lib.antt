pub mod Served
pub mod Acted
