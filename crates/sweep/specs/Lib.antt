pub mod Sweep
pub mod Ready
