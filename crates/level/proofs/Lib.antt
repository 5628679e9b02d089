pub mod LevelLaws
pub mod Passing
