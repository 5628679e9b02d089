-- What the tallies' steps compute.
pub mod Raising
