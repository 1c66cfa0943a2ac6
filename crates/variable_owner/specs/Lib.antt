pub mod Owners
pub mod Row
