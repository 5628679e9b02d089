-- What a node store keeps, in reading order.
pub mod Kept
pub mod Pending
pub mod Frame
