pub mod Records
pub mod Opening
pub mod Taking
pub mod Closing
