-- What the descent's steps compute.
pub mod Numbers
pub mod Visiting
