pub mod Slots
pub mod Rows
pub mod Pairs
pub mod Declared
