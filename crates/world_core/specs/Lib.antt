pub mod Laws
pub mod Travels
pub mod Queue
pub mod Mail
pub mod World
pub mod Replay
