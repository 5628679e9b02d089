-- The loops, and what forming gives.
pub mod Filling
pub mod Forming
