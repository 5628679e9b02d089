-- What the proofs of the functions use.
pub mod Steps
pub mod Ways
