pub mod Again
pub mod World
pub mod Laws
