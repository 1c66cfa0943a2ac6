pub mod Answers
pub mod Messages
pub mod Protocols
pub mod Simulation
pub mod Stays
pub mod Distributed
