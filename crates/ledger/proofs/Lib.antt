-- What is proved of the store.
pub mod Links
pub mod Facts
pub mod Reaching
pub mod Bounds
pub mod Taking
pub mod Raising
pub mod Making
pub mod Staying
pub mod Lowering
pub mod Scanning
pub mod Releasing
pub mod Heights
pub mod Formed
pub mod Example
pub mod Ready
