-- What the proofs of the functions use.
pub mod Raising
pub mod Making
