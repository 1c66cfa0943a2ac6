pub mod Streams
pub mod Reading
pub mod Counts
pub mod Memory
pub mod Steady
pub mod System
