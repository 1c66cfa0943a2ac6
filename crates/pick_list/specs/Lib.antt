pub mod Columns
pub mod Binds
pub mod Names
pub mod Tells
pub mod Compact
pub mod Namings
