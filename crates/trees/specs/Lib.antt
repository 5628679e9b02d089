-- What the laws of path copying speak of, in reading order.
pub mod Stock
pub mod Extends
pub mod Agreeing
pub mod Sources
pub mod Climbs
pub mod Copied
pub mod Elements
pub mod Edited
