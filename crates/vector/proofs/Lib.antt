-- What the proofs of the functions use.
pub mod Editing
pub mod Answering
