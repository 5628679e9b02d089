-- What the comparison's steps compute.
pub mod Walking
