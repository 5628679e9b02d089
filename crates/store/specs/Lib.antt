pub mod Store
pub mod Ready
pub mod Answers
pub mod Frame
pub mod Lent
