pub mod CellCounts
pub mod Laws
pub mod Reached
pub mod Standing
