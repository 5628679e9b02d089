-- What is asked of callers.
pub mod Legal
