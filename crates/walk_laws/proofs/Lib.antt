-- What is proved of the walks: ways and steps, the two lists, one walk, its promises, what stays, and an example.
pub mod Ways
pub mod Steps
pub mod Forward
pub mod Backward
pub mod Places
pub mod Seen
pub mod Ends
pub mod Left
pub mod Records
pub mod Takes
pub mod Stored
pub mod Opening
pub mod Example
