-- What is proved of lines: by piece, by mark, and what the program makes of them.
pub mod Pieces
pub mod Marks
pub mod Talking
pub mod Turns
pub mod Steps
pub mod Printed
pub mod Joined
pub mod Examples
