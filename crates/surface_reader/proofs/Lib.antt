pub mod Levels
pub mod Steps
pub mod Unfold
pub mod Declared
