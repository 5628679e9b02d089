-- What the proofs of the functions use.
pub mod Lowering
pub mod Sweeping
