pub mod Homes
pub mod Place
pub mod Tables
