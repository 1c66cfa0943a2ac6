pub mod Plain
pub mod Laws
pub mod Sums
