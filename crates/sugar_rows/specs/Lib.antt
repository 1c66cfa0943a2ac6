pub mod Codes
pub mod Put
pub mod Writing
pub mod Rows
pub mod Laws
