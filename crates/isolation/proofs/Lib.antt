pub mod Keeping
pub mod Operations
pub mod Steps
pub mod Striking
pub mod Parties
pub mod Isolation
pub mod Mixing
