-- A piece of the program's input on a state that runs, in reading order.
pub mod Conversing
pub mod Talks
