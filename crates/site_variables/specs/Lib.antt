pub mod Variables
pub mod Meeting
pub mod Fit
