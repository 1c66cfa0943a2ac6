pub mod Counts
pub mod Rounds
pub mod Progress
pub mod Order
pub mod Simulated
pub mod Output
