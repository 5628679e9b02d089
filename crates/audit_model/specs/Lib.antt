-- What the audit computes, in the order of its steps.
pub mod Made
pub mod Descent
pub mod Records
pub mod Tallies
pub mod Audit
