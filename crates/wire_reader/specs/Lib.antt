pub mod Field
pub mod Format
pub mod Laws
pub mod Numbers
pub mod Reading
pub mod Rows
