-- The program's lines piece by piece, in reading order.
pub mod Lines
pub mod Reading
pub mod Printing
pub mod After
