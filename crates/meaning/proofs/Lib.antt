-- What is proved of the meaning.
pub mod Heights
pub mod Figures
pub mod Sessions
pub mod Lines
pub mod Booleans
pub mod Lists
pub mod Sums
pub mod Rows
pub mod FreshLaws
pub mod Nodes
pub mod Reaching
pub mod Shared
pub mod Damaged
pub mod Shapes
pub mod Answers
pub mod Batches
