pub mod Ready
pub mod Calling
pub mod Editing
pub mod Reading
pub mod Walking
pub mod Answering
