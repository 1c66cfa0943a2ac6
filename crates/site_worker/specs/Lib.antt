pub mod Inside
pub mod Host
pub mod Waking
pub mod Visit
pub mod Hosts
pub mod Sites
