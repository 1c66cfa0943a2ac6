pub mod State
pub mod Levels
