pub mod Reads
pub mod Walks
pub mod Calls
