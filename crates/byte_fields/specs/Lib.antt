pub mod Field
pub mod Text
pub mod Reading
pub mod TextReading
pub mod Laws
pub mod Writing
