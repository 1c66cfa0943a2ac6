pub mod Laws
pub mod Ports
