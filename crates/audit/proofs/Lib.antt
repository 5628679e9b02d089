-- The audit is what its passes give.
pub mod Judging
