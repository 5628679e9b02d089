-- What the steps over the records compute.
pub mod Recording
