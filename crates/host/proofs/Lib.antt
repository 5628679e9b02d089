-- What a table copied out and back makes of their promises.
pub mod Settled
pub mod Batching
