-- What is proved of the shape, leaves first. That the height is the one number at which a length fits is proved of the meaning.
pub mod Powers
pub mod Buckets
pub mod Capacity
pub mod Growth
pub mod Computed
