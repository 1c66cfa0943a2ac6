pub mod Threads
pub mod Binds
pub mod Order
pub mod Lends
pub mod Slots
pub mod Row
pub mod Invariant
pub mod Parking
