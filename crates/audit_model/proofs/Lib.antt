-- That the audit decides well-formedness, leaves first.
pub mod Tests
pub mod Done
pub mod Visits
pub mod Levels
pub mod Slots
pub mod Lists
pub mod Counts
pub mod Marks
pub mod Decides
pub mod Sizes
pub mod Steps
