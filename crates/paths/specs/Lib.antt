pub mod Paths
pub mod Edits
pub mod Ready
