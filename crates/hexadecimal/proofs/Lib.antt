-- What is proved of digits one by one and two by two.
pub mod Digits
pub mod Pairs
