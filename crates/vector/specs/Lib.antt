-- What the calls answer, and what they require.
pub mod Calls
pub mod Ready
