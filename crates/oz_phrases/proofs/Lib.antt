pub mod Declaring
pub mod Placing
pub mod Unfold
