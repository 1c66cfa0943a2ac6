pub mod Fitting
pub mod Turns
pub mod Start
pub mod Invariant
pub mod Site
pub mod Seat
pub mod Replay
