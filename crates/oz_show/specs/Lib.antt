pub mod CanonicalText
pub mod Refusal
pub mod Status
pub mod Laws
