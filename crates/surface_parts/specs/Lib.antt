pub mod Slots
pub mod Signs
