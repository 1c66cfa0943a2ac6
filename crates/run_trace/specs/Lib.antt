pub mod Begun
pub mod Raised
pub mod Births
pub mod First
pub mod Laws
pub mod Rows
pub mod Waits
pub mod Kept
