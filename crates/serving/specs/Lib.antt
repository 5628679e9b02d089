-- What serving promises, in reading order.
pub mod States
pub mod Passed
pub mod Does
pub mod Served
pub mod Lending
pub mod Demand1
pub mod Demand2
pub mod Demand3
