pub mod Inboxes
pub mod Travels
pub mod Posts
pub mod Quiet
pub mod Turns
pub mod Hands
